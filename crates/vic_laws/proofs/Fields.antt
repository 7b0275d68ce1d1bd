-- What a text tells.
use Rattle.std.specs.Prelude.{◌≡◌, [], ◌∷◌, ◌++◌}
use Rattle.std.specs.Int.{w32, to_be_bytes, from_be_bytes}
use Rattle.std.proofs.Common.{refl, ap, sym, ◌∙◌}
use Rattle.std.proofs.lemmas.Nat.{from_be_bytes-to_be_bytes_4}
use Rattle.vic_dict.specs.declared.op.Mode.{Mode}
use Rattle.vic_dict.specs.declared.op.Mode.TheVariants as mode
use Rattle.vic_wire.specs.Texts.{entry_text, mode_byte, status_byte}
use Rattle.vic_laws.specs.Fields.{GenesisTells, InvokeTells, CommitTells, SealTells, KindsApart}
use Rattle.vic_laws.proofs.Words.{tail_same}
use Rattle.vic_laws.proofs.Chains.{same_entry_text}
use Rattle.vic_laws.proofs.MadeSeals.{seal_text_told}
use Rattle.vic_laws.proofs.MadeCommits.{commit_told}
use Rattle.vic_laws.proofs.RealTime.{first_of_list}
use Rattle.vic_tree.proofs.Binding.{same_parts}

one_mode : (k j : Mode) → mode_byte k ≡ mode_byte j → k ≡ j
one_mode mode.Plain mode.Plain e = refl
one_mode mode.Objects mode.Objects e = refl
one_mode mode.Plain mode.Objects e = absurd cc
one_mode mode.Objects mode.Plain e = absurd cc

pub genesis_tells : GenesisTells
genesis_tells k j m n e =
    let bytes : mode_byte k ≡ mode_byte j = cc in
    let counts : m ≡ n = cc in
    (one_mode k j bytes, counts)

pub invoke_tells : InvokeTells
invoke_tells e f a b same = same_entry_text e f a b (tail_same 17 17 (entry_text e) (entry_text f) same)

pub commit_tells : CommitTells
commit_tells m n a b d e small few same text =
    let rest = tail_same 18 18 (to_be_bytes w32 m ++ a ++ status_byte d ∷ []) (to_be_bytes w32 n ++ b ++ status_byte e ∷ []) text in
    let first = same_parts (to_be_bytes w32 m) (to_be_bytes w32 n) (a ++ status_byte d ∷ []) (b ++ status_byte e ∷ []) refl rest in
    let told = commit_told m n a b d e same text in
    (sym (from_be_bytes-to_be_bytes_4 m small) ∙ (ap (from_be_bytes w32) first.0 ∙ from_be_bytes-to_be_bytes_4 n few), told.0, told.1)

pub seal_tells : SealTells
seal_tells m n a b r q small few same text = seal_text_told m n a b r q small few same text

pub kinds_apart : KindsApart
kinds_apart = record {
  call_status = λ e n a d same. let first : 17 ≡ 18 = first_of_list 17 18 _ _ same in absurd cc;
  call_seal = λ e n a r same. let first : 17 ≡ 19 = first_of_list 17 19 _ _ same in absurd cc;
  status_seal = λ m n a b r d same. let first : 18 ≡ 19 = first_of_list 18 19 _ _ same in absurd cc;
}
