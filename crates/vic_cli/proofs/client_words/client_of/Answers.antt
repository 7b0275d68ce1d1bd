use Rattle.std.proofs.Common.{◌≡◌, ◌<◌, ◌≤◌, List, [], ◌∷◌, ℕ, map, length, IfOk, ap, sym, subst, ◌∙◌, rules, arith}
use Rattle.std.proofs.lemmas.Bool.Decides.{nat_tests}
use Rattle.std.specs.Prelude.{string_bytes}
use Rattle.std.proofs.lemmas.List.{length-map}
use Rattle.vic_cli.specs.ClientWords.{client_words, IsClientOf}
use Rattle.vic_cli.proofs.ClientEnding.{six, not_six}
use Rattle.vic_cli.proofs.client_words.client_of.Goals.{in_default-via-then-words-lt6, in_default-via-else-words-lt6+else-words-lt7}
use Rattle.vic_cli.proofs.client_words.client_of.Goals as goal

pub returns-in-len6 : goal.returns-in-len6
returns-in-len6 c =
    let are = six c.args.words.now c.name-item.result c.address-item.result c.id-item.result c.count-item.result c.key-item.result c.mode-item.result c.in-len6.len_at_least c.in-len6.len_below
    c.name-item.is c.address-item.is c.id-item.is c.count-item.is c.key-item.is c.mode-item.is in
    let spelled : map string_bytes (c.name-item.result ∷ c.address-item.result ∷ c.id-item.result ∷ c.count-item.result ∷ c.key-item.result ∷ c.mode-item.result ∷ [])
    ≡ c.as_bytes.result.now ∷ c.as_bytes-in-len6.result.now ∷ c.as_bytes-in-len6-2.result.now ∷ c.as_bytes-in-len6-3.result.now ∷ c.as_str.result.now ∷ c.as_bytes-in-len6-4.result.now ∷ [] = cc in
    subst (λ (ws : List (List ℕ)). IfOk c.client_in.result (λ k. IsClientOf (client_words ws) k)) (sym (ap (λ ws. map string_bytes ws) are ∙ spelled)) c.client_in.ensures

pub returns-in_default : goal.returns-in_default
returns-in_default c =
    let other : length c.args.words.now ≡ 6 → ⊥ = elim c.in_default.branch [
      | in_default-via-then-words-lt6 w ↦
          let few : length c.args.words.now < 6 = first_of (search rules, grind (arith, nat_tests)) in λ e. absurd (omega (arith, few, e))
      | in_default-via-else-words-lt6+else-words-lt7 w ↦
          let many : 7 ≤ length c.args.words.now = first_of (search rules, grind (arith, nat_tests)) in λ e. absurd (omega (arith, many, e))
    ] in
    not_six (map string_bytes c.args.words.now) (λ e. other (sym (length-map c.args.words.now string_bytes) ∙ e))
