use Rattle.std.proofs.Common.{[], sym, refl, ap, ◌∙◌, ap₂, arith}
use Rattle.std.proofs.lemmas.List.{length-map}
use Rattle.std.proofs.lemmas.Bool.Decides.{nat_tests}
use Rattle.std.proofs.lemmas.Result.{err_from_is_err_and}
use Rattle.terms.specs.Refusals.{load_refusal}
use Rattle.readers.specs.Memory.{held}
use Rattle.finder.proofs.Starts.{represents_begun, back}
use Rattle.finder.proofs.slot.Slot.load.Goals as goal

pub returns-then-phrase-gt-LONGEST_PHRASE : goal.returns-then-phrase-gt-LONGEST_PHRASE
returns-then-phrase-gt-LONGEST_PHRASE g c = record { exact = simp length-map (grind (arith, nat_tests)); kept = refl }

pub returns-in_err-load : goal.returns-in_err-load
returns-in_err-load g c =
    let ps = c.as_slice.ensures.value ∙ c.sounds_of-sounds.ensures in
    let p = err_from_is_err_and c.from_residual.result c.from_residual.ensures.1 in
    let e = c.in_err-load.ensures.exact in
    rw (p.1, p.2) record {
      exact = sym (ap₂ (λ n zs. load_refusal (g.R.Reader.reaches n) zs c.args.q n) c.SOUNDS.ensures ps) ∙ e.0;
      kept = back c.args.self.now _ e.1;
    }

pub returns : goal.returns
returns g c =
    let ps = c.as_slice.ensures.value ∙ c.sounds_of-sounds.ensures in
    let e = c.in_ok-load.ensures.exact in
    record {
      exact = (
        sym (ap₂ (λ n zs. load_refusal (g.R.Reader.reaches n) zs c.args.q n) c.SOUNDS.ensures ps) ∙ e.0,
        represents_begun g.S.Step.sound g.R.Reader.memory g.M.Row.marks _ c.begin.new.self _ c.args.phrase.now c.args.q c.begin.ensures refl refl
            (e.1 ∙ ap (λ zs. held zs c.args.q []) ps) c.for_codes-self.ensures,
      );
      kept = tt;
    }
