-- What a table keeps true is a proposition, so that it can be a ghost field.
use Rattle.std.specs.Prelude.{◌≡◌, ℕ, ◌+◌, ◌<◌, ◌≤◌, List, [], ◌∷◌, ◌++◌, length, drop, slice_index}
use base.Stored.{Coded-set, coded_list, coded_ℕ}
use denote.Struct.Props.{props}
use Rattle.terms.specs.Figures.{figures}
use Rattle.readers.specs.declared.state.State.{State}
use Rattle.readers.specs.States.{Keeps}
use Rattle.readers.specs.Table.{Node, Tree, Runs, Stands, Built, run, nodes, Complete, Codes, Counts}

pub tree_prop : (n : ℕ) (N : ℕ → Node) → IsProp (Tree n N)
tree_prop n N p q =
    let a : IsProp ((i : ℕ) → 0 < i → i < n → (N i).parent < i) = hlevel props in
    let b : IsProp ((i : ℕ) → i < n → (N i).child < n) = hlevel props in
    let c : IsProp ((i : ℕ) → i < n → 0 < (N i).child → (N (N i).child).parent ≡ i) = hlevel props in
    let d : IsProp ((j : ℕ) → 0 < j → j < n → j ≤ (N (N j).parent).child) = hlevel props in
    let e : IsProp ((k : ℕ) → 0 < k → k < n → (N k).next < k) = hlevel props in
    let f : IsProp ((k : ℕ) → 0 < k → k < n → 0 < (N k).next → (N (N k).next).parent ≡ (N k).parent) = hlevel props in
    let g : IsProp ((j k : ℕ) → 0 < j → j < k → k < n → (N j).parent ≡ (N k).parent → j ≤ (N k).next) = hlevel props in
    λ i. record {
      parent_in = a p.parent_in q.parent_in i;
      first_in = b p.first_in q.first_in i;
      first_of = c p.first_of q.first_of i;
      first_most = d p.first_most q.first_most i;
      next_in = e p.next_in q.next_in i;
      next_of = f p.next_of q.next_of i;
      next_most = g p.next_most q.next_most i;
    }

runs_prop : (xs : List ℕ) (n : ℕ) (N : ℕ → Node) → IsProp (Runs xs n N)
runs_prop xs n N p q =
    let a : IsProp (0 < n) = hlevel props in
    let b : IsProp ((N 0).len ≡ 0) = hlevel props in
    let c : IsProp ((i : ℕ) → i < n → (N i).at + (N i).len ≤ length xs) = hlevel props in
    let d : IsProp ((i : ℕ) → 0 < i → i < n → run xs (N i) ≡ run xs (N (N i).parent) ++ ((N i).sound ∷ [])) = λ x y j i z h. Coded-set (coded_list coded_ℕ) _ _ (x i z h) (y i z h) j in
    let e : IsProp ((i : ℕ) → 0 < i → i < n → (N i).len ≡ (N (N i).parent).len + 1) = hlevel props in
    let f : IsProp ((i : ℕ) → 0 < i → i < n → (N i).shorter < n) = hlevel props in
    let g : IsProp ((i : ℕ) → 0 < i → i < n → run xs (N (N i).shorter) ≡ drop 1 (run xs (N i))) = λ x y j i z h. Coded-set (coded_list coded_ℕ) _ _ (x i z h) (y i z h) j in
    let h : IsProp ((i : ℕ) → 0 < i → i < n → (N (N i).shorter).len + 1 ≡ (N i).len) = hlevel props in
    let k : IsProp ((i j : ℕ) → i < n → j < n → run xs (N i) ≡ run xs (N j) → i ≡ j) = hlevel props in
    λ i. record {
      some = a p.some q.some i;
      root = b p.root q.root i;
      inside = c p.inside q.inside i;
      made = d p.made q.made i;
      grows = e p.grows q.grows i;
      shorter_in = f p.shorter_in q.shorter_in i;
      shorter_is = g p.shorter_is q.shorter_is i;
      shrinks = h p.shrinks q.shrinks i;
      apart = k p.apart q.apart i;
    }

stands_prop : (p : List ℕ) (n : ℕ) (N : ℕ → Node) (l b j : ℕ) → IsProp (Stands p n N l b j)
stands_prop p n N l b j x y =
    let a : IsProp (j < n) = hlevel props in
    let c : IsProp ((N j).len ≡ l) = hlevel props in
    λ i. record {
      in_table = a x.in_table y.in_table i;
      len_is = c x.len_is y.len_is i;
      run_is = Coded-set (coded_list coded_ℕ) _ _ x.run_is y.run_is i;
    }

pub built_prop : (p : List ℕ) (l a s n : ℕ) (N : ℕ → Node) (places : List ℕ) → IsProp (Built p l a s n N places)
built_prop p l a s n N places x y =
    let c : IsProp ((i : ℕ) → i < n → (N i).len ≤ s) = hlevel props in
    let d : IsProp (Complete p l n N) = hlevel props in
    λ i. record {
      runs = runs_prop p n N x.runs y.runs i;
      short = c x.short y.short i;
      complete = d x.complete y.complete i;
      done = λ b h. stands_prop p n N (l + 1) b (slice_index places b) (x.done b h) (y.done b h) i;
      todo = λ b h k. stands_prop p n N l b (slice_index places b) (x.todo b h k) (y.todo b h k) i;
    }

pub keeps_prop : (p : List ℕ) (q here : ℕ) (ss : List State) (counts : List ℕ) → IsProp (Keeps p q here ss counts)
keeps_prop p q here ss counts x y =
    let a : IsProp (1 ≤ q) = hlevel props in
    let b : IsProp (here < length ss) = hlevel props in
    let c : IsProp ((i : ℕ) → i < length ss → (nodes ss i).len ≤ q) = hlevel props in
    let d : IsProp (Complete p q (length ss) (nodes ss)) = hlevel props in
    let e : IsProp (Codes p (figures q p) (length ss) ss) = hlevel props in
    let f : IsProp (Counts (figures q p) counts) = hlevel props in
    λ i. record {
      some = a x.some y.some i;
      inside = b x.inside y.inside i;
      runs = runs_prop p (length ss) (nodes ss) x.runs y.runs i;
      short = c x.short y.short i;
      complete = d x.complete y.complete i;
      codes = e x.codes y.codes i;
      counted = f x.counted y.counted i;
    }
