-- A change at one key is taken back at that key.
use Rattle.std.proofs.Common.{◌≡◌, ℕ, Bool, true, false, cond, List, Option, Some, None, refl, sym, ap, subst, ◌∙◌}
use Rattle.std.specs.Ordering.{eq_by_cmp}
use Rattle.std.specs.Cmp.Lexicographic.{nat_list_cmp_total}
use Rattle.std.specs.FinMap.{get-insert, get-remove}
use Rattle.std.specs.FinMap as finmap
use Rattle.vic_dict.specs.Dictionary.{Dictionary}
use Rattle.vic_tree.proofs.Lists.{key_cmp, same_key, key_same}
use Rattle.vic_tree.proofs.Stands.{same_dictionary}

no_way : true ≡ false → ⊥
no_way e = cc

other : (z k : List ℕ) → eq_by_cmp key_cmp z k ≡ false → z ≡ k → ⊥
other z k e same = no_way (sym (ap (λ x. eq_by_cmp key_cmp x k) same ∙ key_same k) ∙ e)

pub gone_back : (d e : Dictionary) (k : List ℕ) → finmap.get d k ≡ None → ((q : List ℕ) → (q ≡ k → ⊥) → finmap.get e q ≡ finmap.get d q) → finmap.remove e k ≡ d
gone_back d e k none agree = same_dictionary _ _ (λ z. get-remove nat_list_cmp_total e k z
    ∙ elim (eq_by_cmp key_cmp z k) as (λ b. eq_by_cmp key_cmp z k ≡ b → cond b None (finmap.get e z) ≡ finmap.get d z) [
      | true ↦ λ s. sym none ∙ ap (finmap.get d) (sym (same_key z k s))
      | false ↦ λ s. agree z (other z k s)
    ] refl)

pub put_back : (d e : Dictionary) (k w : List ℕ) → finmap.get d k ≡ Some w → ((q : List ℕ) → (q ≡ k → ⊥) → finmap.get e q ≡ finmap.get d q) → finmap.insert e k w ≡ d
put_back d e k w some agree = same_dictionary _ _ (λ z. get-insert nat_list_cmp_total e k w z
    ∙ elim (eq_by_cmp key_cmp z k) as (λ b. eq_by_cmp key_cmp z k ≡ b → cond b (Some w) (finmap.get e z) ≡ finmap.get d z) [
      | true ↦ λ s. sym some ∙ ap (finmap.get d) (sym (same_key z k s))
      | false ↦ λ s. agree z (other z k s)
    ] refl)

-- what a put and a del leave alone
pub put_agrees : (d : Dictionary) (k v : List ℕ) (q : List ℕ) → (q ≡ k → ⊥) → finmap.get (finmap.insert d k v) q ≡ finmap.get d q
put_agrees d k v q away = get-insert nat_list_cmp_total d k v q
    ∙ elim (eq_by_cmp key_cmp q k) as (λ b. eq_by_cmp key_cmp q k ≡ b → cond b (Some v) (finmap.get d q) ≡ finmap.get d q) [
      | true ↦ λ s. absurd (away (same_key q k s))
      | false ↦ λ s. refl
    ] refl

pub del_agrees : (d : Dictionary) (k : List ℕ) (q : List ℕ) → (q ≡ k → ⊥) → finmap.get (finmap.remove d k) q ≡ finmap.get d q
del_agrees d k q away = get-remove nat_list_cmp_total d k q
    ∙ elim (eq_by_cmp key_cmp q k) as (λ b. eq_by_cmp key_cmp q k ≡ b → cond b None (finmap.get d q) ≡ finmap.get d q) [
      | true ↦ λ s. absurd (away (same_key q k s))
      | false ↦ λ s. refl
    ] refl
