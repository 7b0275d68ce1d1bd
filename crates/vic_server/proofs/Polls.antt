-- A payload that spells a Poll.
use Rattle.std.proofs.Common.{◌≡◌, ℕ, [], ◌∷◌, List, Some}
use Rattle.vic_dict.specs.Lists.{AreBytes}
use Rattle.vic_wire.specs.declared.message.ToServer.TheVariants as ask
use Rattle.vic_wire.specs.Reading.{read_request}
use Rattle.vic_spellings.proofs.Laws.{requests_are_spelled}

pub poll-spelled : (bytes : List ℕ) → AreBytes bytes → read_request bytes ≡ Some ask.Poll → bytes ≡ 0x24 ∷ []
poll-spelled bytes in_bytes is = (requests_are_spelled.found bytes ask.Poll in_bytes is).1
