-- What a client does that does not poll.
use Rattle.std.proofs.Common.{◌≡◌, ◌<◌, ◌+◌, ◌-◌, ◌%◌, ℕ, false, length, get_or, set, if◌then◌else◌, sym, ap, ◌∙◌}
use Rattle.std.proofs.lemmas.Option.{unwrap_or-slice_get}
use Rattle.std.proofs.lemmas.List.{get_or_read}
use Rattle.std.proofs.lemmas.Bool.{ne_eqb}
use Rattle.vic_dict.specs.declared.op.Op.{Op}
use Rattle.vic_gen.specs.declared.Act.TheVariants as act
use Rattle.vic_gen.specs.Drawing.{Drawing, number_drawn, next_of, op_drawn, acts_of, drawing_with_act, is_poll, next_drawing, act_of, drawing_after_act}

-- how often it has acted is what stands at its place
pub acts-at : (d : Drawing) (client times : ℕ) → client - 1 < length d.acts → times ≡ get_or d.acts (client - 1) times → acts_of d client ≡ times
acts-at d client times within e = unwrap_or-slice_get d.acts (client - 1) 0 ∙ sym (get_or_read d.acts (client - 1) times within e 0)

pub is_poll-at : (d : Drawing) (client times : ℕ) → acts_of d client ≡ times → (times ≡ 3 → ⊥) → is_poll d client ≡ false
is_poll-at d client times e ne = ne_eqb (acts_of d client) 3 (λ h. ne (sym e ∙ h))

pub act-calls : (d : Drawing) (client call kind behind : ℕ) (o : Op) → is_poll d client ≡ false → kind ≡ number_drawn d.x 8 → behind ≡ next_of d.x → o ≡ op_drawn kind behind call
    → act.Call o ≡ act_of d client call
act-calls d client call kind behind o e k b is =
    ap act.Call (is ∙ ap (λ n. op_drawn n behind call) k ∙ ap (λ n. op_drawn (number_drawn d.x 8) n call) b)
    ∙ sym (ap (λ t. if t then act.Poll else act.Call (op_drawn (number_drawn d.x 8) (next_of d.x) call)) e)

pub drawing_after_act-calls : (d : Drawing) (client times : ℕ) → is_poll d client ≡ false → acts_of d client ≡ times
    → drawing_after_act d client ≡ record { x = next_of (next_of d.x); acts = set d.acts (client - 1) ((times + 1) % 4) }
drawing_after_act-calls d client times e is =
    ap (λ t. if t then drawing_with_act d client else next_drawing (next_drawing (drawing_with_act d client))) e
    ∙ ap (λ (n : ℕ). record { x = next_of (next_of d.x); acts = set d.acts (client - 1) ((n + 1) % 4) }) is
