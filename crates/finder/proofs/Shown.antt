-- Lamp and view.
use Rattle.std.proofs.Common.{◌≡◌, ℕ, ◌-◌, ◌<◌, Ok, subst, List, [], map, length, Some, None, Option, sym, refl, ap, ◌∙◌, arith}
use Rattle.std.proofs.lemmas.List.{length-map, length-drop, nil_from_length}
use Rattle.std.proofs.lemmas.Slice.{between_is}
use Rattle.std.proofs.lemmas.Bool.Decides.{nat_tests}
use Rattle.std.specs.Prelude.{slice_range}
use Rattle.std.specs.Borrow.{Bor}
use Rattle.terms.specs.Limits.{lamp_length}
use Rattle.terms.specs.declared.answer.BestStretch.{BestStretch}
use Rattle.finder.specs.Views.{ViewTold}
use Rattle.readers.specs.Memory.{Memory}
use Rattle.rows.specs.LampRings.{answers, LampShows}
use Rattle.rows.specs.declared.mark.Mark.{Mark}
use Rattle.finder.specs.History.{History, Played, none, more, BestOf, LampList, LampOf, gap_and_step}
use Rattle.finder.specs.Slots.{LampTold}
use Rattle.finder.specs.declared.slot.Slot.{Slot}
use Rattle.terms.specs.declared.answer.Answer.{Answer}

pub played_length : {S : Type 0} (sound : S → ℕ) {h : History S} {xs : List S} {bs : List Answer} → Played sound h xs bs → length bs ≡ length xs
played_length sound none = refl
played_length sound (more j rest) = let k = played_length sound rest in omega arith

list_none : {S : Type 0} (sound : S → ℕ) (h : History S) (ls : List (ℕ × ℕ)) → LampList sound h ls → ls ≡ [] → h.take ≡ []
list_none sound h ls k e =
    let ms : List (ℕ × ℕ) = map gap_and_step k.all in
    let a = ap length (sym e ∙ k.latest) in
    let b = length-drop (length ms - lamp_length) ms in
    let d = length-map k.all gap_and_step in
    let p = played_length sound k.played in
    nil_from_length h.take (omega arith)

lamp_of : {S : Type 0} (sound : S → ℕ) (h : History S) (ls : List (ℕ × ℕ)) (o : Option (ℕ × ℕ)) → LampList sound h ls → LampShows ls o → LampOf sound h o
lamp_of sound h ls None k e = list_none sound h ls k e
lamp_of sound h ls (Some l) k e = record { list = ls; listed = k; shows = e }

pub lamp_told : {S R M : Type 0} (sound : S → ℕ) (memory : R → Memory) (marks : M → List Mark) (s : Slot S R M) (o : Option (ℕ × ℕ))
    → LampShows (answers s.progress.lamp) o → LampTold sound memory marks s o
lamp_told sound memory marks s o e = record { exact = λ h t. lamp_of sound h (answers s.progress.lamp) o t.lamp e }

pub view_told : {S R M : Type 0} (sound : S → ℕ) (memory : R → Memory) (marks : M → List Mark) (s : Slot S R M) (xs : List S) (b : BestStretch) (v : Bor (List S) × ℕ)
    → length xs ≡ s.progress.count → s.progress.best ≡ Some b → v.0.now ≡ slice_range xs (b.start - 1) b.end → v.1 ≡ b.start - 1
    → ViewTold sound memory marks s xs (Ok v)
view_told sound memory marks s xs b v l e is at = record {
  exact = λ h t.
      let k = subst (BestOf sound h) e t.best in
      let m = length-map h.take sound in
      let last = k.a_step in
      let from = k.a_start in
      let n = t.count in
      let some : 0 < length h.take = omega arith in (
        grind (arith, nat_tests),
        record { gap = b.gap; start = b.start; end = b.end; best = k; is = is ∙ between_is xs (b.start - 1) b.end; at = omega arith },
      );
}
