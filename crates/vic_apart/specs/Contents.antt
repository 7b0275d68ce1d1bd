-- The contents that were sent to be kept or taken, as steps tell them.
use Rattle.std.specs.Prelude.{List, ℕ, [], ◌∷◌, ◌++◌, Option, Some, None}
use Rattle.vic_wire.specs.declared.message.ToServer.{ToServer}
use Rattle.vic_wire.specs.declared.message.ToServer.TheVariants as ask
use Rattle.vic_wire.specs.Texts.{content_text}
use Rattle.vic_rules.specs.declared.trace.TraceStep.{TraceStep}
use Rattle.vic_rules.specs.Trust.{content_in}
use Rattle.vic_laws.specs.Meanings.{texts_of_each}
use Rattle.vic_view.specs.Replay.{read_by}
use Rattle.vic_view.specs.Making.{request_in}

-- the content that a request asks to keep
abbrev pub kept_in : Option ToServer → List (List ℕ)
kept_in None = []
kept_in (Some (ask.Keep content)) = content ∷ []
kept_in (Some (ask.Hello kind client)) = []
kept_in (Some (ask.Invoke known seq o tag)) = []
kept_in (Some (ask.Commit position done tag)) = []
kept_in (Some ask.Poll) = []
kept_in (Some (ask.Seal position root tag)) = []
kept_in (Some (ask.Sync known)) = []
kept_in (Some (ask.Fetch hash)) = []
kept_in (Some ask.Bye) = []

-- what a step tells
abbrev pub contents_at : TraceStep → List (List ℕ)
contents_at x = kept_in (request_in x.sent) ++ content_in (read_by x.input x.returned)

-- what the steps of a history tell, the latest step first
unfoldable pub contents_told : List TraceStep → List (List ℕ)
contents_told [] = []
contents_told (x ∷ past) = contents_at x ++ contents_told past

-- the texts of contents
abbrev pub content_texts : List (List ℕ) → List (List ℕ)
content_texts contents = texts_of_each (λ content. content_text content ∷ []) contents
