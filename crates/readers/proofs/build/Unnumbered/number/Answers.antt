use Rattle.std.proofs.Common.{◌≡◌, ◌+◌, ◌-◌, length, get_or, take, sym, ap, ◌∙◌, subst, arith}
use Rattle.std.proofs.lemmas.List.{take_all, length-take}
use Rattle.terms.specs.Figures.{figures}
use Rattle.terms.proofs.Runs.{length_figures}
use Rattle.readers.specs.Table.{nodes, Counts, Numbered, most_places}
use Rattle.readers.proofs.Loading.{keeps_built}
use Rattle.readers.proofs.Naming.{room_to_give, turn, numbered_start, counts_start}
use Rattle.readers.proofs.Starts.{zeros}
use Rattle.readers.proofs.build.Unnumbered.number.Goals as goal

pub loop-state-init : goal.loop-state-init
loop-state-init c = record {
  numbered = numbered_start _ _ c.args.self.fresh;
  counted = counts_start _ (λ h. ap (λ v. get_or v h 0) c.new-counts.ensures ∙ zeros most_places h);
}

pub give_code-codes-requires : goal.give_code-codes-requires
give_code-codes-requires c =
    let r = room_to_give _ _ _ _ _ c.args.self.built c.args.self.fits _ c.loop-state-test.true _ _ c.loop-state.invariant.numbered in
    record { inside = r.0; few = r.1 }

pub add-requires : goal.add-requires
add-requires c =
    let t =
    turn _ _ _ _ _ c.args.self.built c.args.self.fits _ c.loop-state-test.true _ _ c.loop-state.invariant.numbered c.requires _ _ c.give_code-codes.ensures _ c.code.ensures
    _ c.loop-state.counts.long c.loop-state.invariant.counted in
    record { inside = t.small; few = t.few }

pub loop-state-preserved : goal.loop-state-preserved
loop-state-preserved c =
    let t =
    turn _ _ _ _ _ c.args.self.built c.args.self.fits _ c.loop-state-test.true _ _ c.loop-state.invariant.numbered c.requires _ _ c.give_code-codes.ensures _ c.code.ensures
    _ c.loop-state.counts.long c.loop-state.invariant.counted in
    record {
      numbered = t.numbered;
      counted = subst (Counts (take (c.loop-state.state-index + 1) (figures c.args.self.len c.args.self.phrase.now))) (sym c.add.ensures) t.counted;
    }

pub returns-clause-keeps : goal.returns-clause-keeps
returns-clause-keeps c =
    let ph = c.args.self.phrase.now in
    let q = c.args.self.len in
    let ss = c.args.self.table.states.items in
    let f = c.args.self.fits in
    let l = length_figures q ph c.requires in
    let long = c.args.self.long in
    let e : take c.loop-state.state-index (figures q ph) ≡ figures q ph = take_all c.loop-state.state-index (figures q ph) (omega (arith, length-take (length ph + 1 - q) c.args.self.places)) in
    keeps_built ph q _ _ c.loop-state.table.states.items c.args.self.places c.loop-state.counts.counts c.loop-state.codes c.requires c.args.self.built
    (subst (λ v. Numbered ph v (length ss) (nodes ss) c.loop-state.table.states.items c.loop-state.codes) e c.loop-state.invariant.numbered)
    (subst (λ v. Counts v c.loop-state.counts.counts) e c.loop-state.invariant.counted)
