use Rattle.std.proofs.Common.{◌≡◌, ◌+◌, true, [], sym, ap, subst, ◌∙◌, arith, rules}
use Rattle.terms.specs.Refusals.{all_below_lem}
use Rattle.readers.specs.declared.scale.Scale.{Scale}
use Rattle.readers.specs.Memory.{held}
use Rattle.readers.specs.Slides.{Slides}
use Rattle.readers.proofs.Slidings.{ReadTo, read_start, read_short, read_full, read_all, few_given, code_in_places, few_counted}
use Rattle.readers.proofs.Windows.{memory_empty}
use Rattle.readers.proofs.sliding.Slider.read.Goals as goal
use Rattle.readers.proofs.sliding.Slider.read.Goals.{in-Some, in_default}

pub loop-sound-init : goal.loop-sound-init
loop-sound-init c =
    let e = c.new-window.ensures.scale in
    let b = subst (λ (s : Scale). all_below_lem s.base c.args.phrase.now ≡ true) (sym e) c.requires.below in
    (e, read_start c.args.phrase.now _ _ _ b c.new-window.ensures.empty c.new-codes.ensures.codes c.new-codes.ensures.none c.new-counts.ensures)

pub code-requires-clause-few : goal.code-requires-clause-few
code-requires-clause-few c =
    let l = c.loop-sound in
    few_given c.args.phrase.now l.sound-index l.window c.slide.new.self l.codes l.counts l.invariant.1 c.requires.phrase (omega arith) c.slide.ensures.scale c.slide.ensures.slid

pub add-requires-clause-inside : goal.add-requires-clause-inside
add-requires-clause-inside c =
    let l = c.loop-sound in
    let f = c.in-Some.ensures.filled in
    let e = c.code.ensures.code in
    let h = code_in_places c.args.phrase.now l.sound-index l.window c.slide.new.self l.codes l.counts l.invariant.1 c.requires.phrase (omega arith) c.slide.ensures.scale c.slide.ensures.slid
    c.in-Some.number f.0 f.1 c.code.new.self c.code.ensures.entered in
    omega arith

pub add-requires-clause-few : goal.add-requires-clause-few
add-requires-clause-few c =
    let l = c.loop-sound in
    let f = c.in-Some.ensures.filled in
    few_counted c.args.phrase.now l.sound-index l.window c.slide.new.self l.codes l.counts l.invariant.1 c.requires.phrase (omega arith) c.slide.ensures.scale c.slide.ensures.slid
    c.in-Some.number f.0 f.1 c.code.new.self c.code.ensures.entered c.code.result

pub loop-sound-preserved : goal.loop-sound-preserved
loop-sound-preserved c =
    let l = c.loop-sound in
    let m = c.match-slide in
    let ph = c.args.phrase.now in
    let i = l.sound-index in
    let w' = c.slide.new.self in
    let e = c.slide.ensures in (
      e.scale ∙ l.invariant.0,
      elim m.branch [
        | in-Some w ↦
            let f = w.in-Some.ensures.filled in
            let k = w.code.ensures in
            let r = read_full ph i l.window w' l.codes l.counts l.invariant.1 c.requires.phrase (omega arith) e.scale e.slid w.in-Some.number f.0 f.1 w.code.new.self k.entered w.add.new.self (cc (w.add.ensures, k.code)) in
            subst (λ v. ReadTo ph (i + 1) w' v m.counts) (sym w.codes-is) (subst (ReadTo ph (i + 1) w' w.code.new.self) (sym w.counts-is) r)
        | in_default w ↦
            let r = read_short ph i l.window w' l.codes l.counts l.invariant.1 c.requires.phrase (omega arith) e.scale e.slid w.in_default.ensures.filled in
            subst (λ v. ReadTo ph (i + 1) w' v m.counts) (sym w.codes-is) (subst (ReadTo ph (i + 1) w' l.codes) (sym w.counts-is) r)
      ],
    )

pub invariant_of-result : goal.invariant_of-result
invariant_of-result c =
    let l = c.loop-sound in
    let k = read_all c.args.phrase.now l.sound-index l.window l.codes l.counts l.invariant.1 (omega arith) in
    let e : c.unwrap.result.items ≡ c.args.phrase.now = search rules in
    let s : c.new.result.scale ≡ l.window.scale = c.new.ensures.scale ∙ sym l.invariant.0 in
    record { kept = subst (λ p. Slides p c.new.result.scale l.codes l.counts) (sym e) (subst (λ t. Slides c.args.phrase.now t l.codes l.counts) (sym s) k) }

pub returns : goal.returns
returns c =
    let e : c.unwrap.result.items ≡ c.args.phrase.now = search rules in
    memory_empty c.unwrap.result.items c.args.scale c.new.result c.new.ensures.scale c.new.ensures.empty ∙ ap (λ p. held p c.args.scale.width []) e
