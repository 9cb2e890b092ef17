use Rattle.std.proofs.Common.{◌≡◌, ◌+◌, ◌-◌, ◌<◌, ◌∷◌, [], List, length, replicate, refl, ap, ◌∙◌, subst, sym, arith, rules, length-set, length-drop}
use Rattle.std.proofs.lemmas.Grind.{common_steps}
use Rattle.readers.specs.declared.state.State.{State}
use Rattle.readers.specs.declared.table.Table.{Table}
use Rattle.readers.specs.Table.{nodes, blank, Built, Uncoded, most_places}
use Rattle.readers.proofs.Lengthens.{place_found, place_new, new_uncoded, one_more, finish}
use Rattle.readers.proofs.Once.{each_once}
use Rattle.readers.proofs.Starts.{built_start, uncoded_start, zeros, room, most_more, most_below}
use Rattle.readers.proofs.build.Unnumbered.build.Goals.{in-Some, in-None}
use Rattle.readers.proofs.build.Unnumbered.build.Goals as goal

pub loop-len-init : goal.loop-len-init
loop-len-init c = record {
  built = subst (λ (v : List State). Built c.args.phrase.now 0 0 0 (length v) (nodes v) (replicate most_places 0)) (sym c.new-table.ensures)
      (built_start c.args.phrase.now (nodes (blank ∷ [])) (replicate most_places 0) refl refl (zeros most_places));
  fresh = subst Uncoded (sym c.new-table.ensures) uncoded_start;
  long = refl;
  room = let s = ap length c.new-table.ensures in omega arith;
}

pub add-requires-clause-room : goal.add-requires-clause-room
add-requires-clause-room c =
    let r = room c.loop-len.len (omega arith) in
    let k = c.loop-at.invariant.room in
    let h : c.loop-at.at + c.loop-len.len < length c.args.phrase.now = grind (arith, common_steps) in
    omega arith

pub loop-at-preserved : goal.loop-at-preserved
loop-at-preserved c =
    let ph = c.args.phrase.now in
    let len = c.loop-len.len in
    let at = c.loop-at.at in
    let ps = c.loop-at.places in
    let i = c.loop-at.invariant in
    let hp : at + len < length ph = grind (arith, common_steps) in
    let hl : at < length ps = (let k = i.long in omega arith) in
    elim c.match-find.branch [
      | in-Some w ↦
          let e = ap (λ (t : Table). t.states.items) w.table-is in record {
            built = place_found ph len at _ ps i.built hp hl _ (grind (arith, common_steps)) _ _ e _ w.places-is w.in-Some.ensures;
            fresh = subst Uncoded (sym e) i.fresh;
            long = length-set ps at c.match-find.places ∙ i.long;
            room = let h = ap length e in omega (arith, i.room);
          }
      | in-None w ↦
          let d : w.default.result ≡ blank = search rules in
          let e = ap (λ (t : Table). t.states.items) w.table-is ∙ (rw d at w.add.ensures.states) in record {
            built = place_new ph len at _ ps i.built hp hl _ (grind (arith, common_steps)) _ _ e (w.places-is ∙ w.add.ensures.place) c.loop-at.table.tree w.in-None.ensures;
            fresh = new_uncoded ph len at _ ps i.built hp hl _ (grind (arith, common_steps)) _ c.match-find.places e i.fresh;
            long = length-set ps at c.match-find.places ∙ i.long;
            room = let h = one_more ph len at _ ps i.built hp hl _ (grind (arith, common_steps)) _ c.match-find.places e in omega (arith, i.room);
          }
    ]

pub loop-len-preserved : goal.loop-len-preserved
loop-len-preserved c =
    let ph = c.args.phrase.now in
    let len = c.loop-len.len in
    let t = c.loop-at.table in
    let i = c.loop-at.invariant in
    let e : c.loop-at.at ≡ length ph - len = grind (arith, common_steps) in
    let b = subst (λ a. Built ph len a (len + 1) (length t.states.items) (nodes t.states.items) c.loop-at.places) e i.built in
    record {
      built = finish _ _ _ _ _ t.tree (omega arith) b;
      fresh = i.fresh;
      long = i.long;
      room = omega (arith, i.room, most_more len);
    }

pub returns-clause-once : goal.returns-clause-once
returns-clause-once c =
    let e : c.loop-len.len ≡ c.args.longest = omega arith in
    let t = c.loop-len.table.states.items in
    let i = c.loop-len.invariant in
    each_once c.args.phrase.now c.args.longest (length t) (nodes t) c.loop-len.places
    (subst (λ v. Built c.args.phrase.now v 0 v (length t) (nodes t) c.loop-len.places) e i.built)
    (omega (arith, i.room, most_below c.loop-len.len (omega arith)))
