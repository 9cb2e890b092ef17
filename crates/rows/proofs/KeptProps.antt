-- What a tree keeps true is a proposition.
use Rattle.std.proofs.Common.{◌≡◌, ℕ, ◌+◌, ◌*◌, ◌^◌, ◌<◌, ◌≤◌, Bool, true, List, length, get_or, drop}
use base.Stored.{Coded, Coded-set}
use denote.Struct.Props.{props}
use Rattle.rows.specs.Laws.{Kept, limit, sizes}

module _ {M : Type 0} (coded : Coded M) (empty : M) (joined : M → M → M) (size : M → ℕ) (valid : M → Bool) (depth : ℕ) (nodes : List M) where
  pub kept_prop : IsProp (Kept empty joined size valid depth nodes)
  kept_prop p q =
      let a : IsProp ((i : ℕ) → 0 < i → i < 2 ^ depth → get_or nodes i empty ≡ joined (get_or nodes (2 * i) empty) (get_or nodes (2 * i + 1) empty)) = λ f g i j z h. Coded-set coded _ _ (f j z h) (g j z h) i in
      let b : IsProp ((i : ℕ) → i < length nodes → valid (get_or nodes i empty) ≡ true) = hlevel props in
      let c : IsProp (sizes size (drop (2 ^ depth) nodes) ≤ limit) = hlevel props in
      λ i. record {
        parents = a p.parents q.parents i;
        valids = b p.valids q.valids i;
        few = c p.few q.few i;
      }
