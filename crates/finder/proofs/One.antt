-- What is owed of a history is one thing only.
use Rattle.std.proofs.Common.{◌≡◌, ℕ, ◌-◌, List, [], ◌∷◌, map, length, Some, None, Option, sym, refl, ap, ◌∙◌, subst, ap₂, arith}
use Rattle.std.proofs.lemmas.List.{length-map, length-drop}
use Rattle.terms.proofs.Bests.{closest_unique, best_unique}
use Rattle.terms.specs.Limits.{lamp_length}
use Rattle.terms.specs.Marks.{newest}
use Rattle.rows.specs.LampRings.{Shows}
use Rattle.finder.specs.History.{History, stepped, Answered, Played, none, more, BestOf, LampList, Lamp, LampOf, gap_and_step}
use Rattle.finder.specs.Ones.{Ones}
use Rattle.terms.specs.declared.answer.Answer.{Answer}
use Rattle.terms.specs.declared.answer.BestStretch.{BestStretch}
use Rattle.finder.proofs.Shown.{played_length}

module _ {S : Type 0} (sound : S → ℕ) where
  answer_one : (h : History S) (a b : Answer) → Answered sound h a → Answered sound h b → a ≡ b
  answer_one h a b j k =
      let u = closest_unique j.closest k.closest in
      let n = j.number ∙ sym k.number in
      λ i. record { step = n i; gap = u.0 i; start = u.1 i }

  run_one : {h : History S} {xs : List S} {cs bs : List Answer} → Played sound h xs cs → Played sound h xs bs → cs ≡ bs
  run_one none none = refl
  run_one {h} (more {x} {a} j p) (more {a = b} k r) = ap₂ (λ y ys. y ∷ ys) (answer_one (stepped h x) a b j k) (run_one p r)

  no_best : (h : History S) (b : BestStretch) → h.take ≡ [] → BestOf sound h (Some b) → ⊥
  no_best h b e k =
      let l = length-map h.take sound in
      let n = ap length e in
      let s = k.a_step in
      omega arith

  best_one : (h : History S) (a b : Option BestStretch) → BestOf sound h a → BestOf sound h b → a ≡ b
  best_one h None None j k = refl
  best_one h None (Some b) j k = absurd (no_best h b j k)
  best_one h (Some a) None j k = absurd (no_best h a k j)
  best_one h (Some a) (Some b) j k = let u = best_unique j k in ap Some (λ i. record { gap = u.0 i; start = u.1 i; end = u.2 i })

  list_one : (h : History S) (ls ms : List (ℕ × ℕ)) → LampList sound h ls → LampList sound h ms → ls ≡ ms
  list_one h ls ms j k = j.latest ∙ ap (λ zs. newest lamp_length (map gap_and_step zs)) (run_one j.played k.played) ∙ sym k.latest

  shows_one : (ls : List (ℕ × ℕ)) (a b : ℕ × ℕ) → Shows ls a.0 a.1 → Shows ls b.0 b.1 → a ≡ b
  shows_one ls a b j k =
      let ja = ap (λ p. p.0) j.is in
      let ka = ap (λ p. p.0) k.is in
      let jb = ap (λ p. p.1) j.is in
      let kb = ap (λ p. p.1) k.is in
      let x = j.least k.at k.among in
      let y = k.least j.at j.among in
      let g : a.0 ≡ b.0 = omega arith in
      let p = j.earliest k.at k.among (ka ∙ sym g) in
      let r = k.earliest j.at j.among (ja ∙ g) in
      let s : a.1 ≡ b.1 = omega arith in
      λ i. (g i, s i)

  no_lamp : (h : History S) (l : ℕ × ℕ) → h.take ≡ [] → Lamp sound h l.0 l.1 → ⊥
  no_lamp h l e k =
      let p = played_length sound k.listed.played in
      let n = ap length e in
      let m = length-map k.listed.all gap_and_step in
      let b = k.shows.among in
      let w = ap length k.listed.latest in
      let d = length-drop (length (map gap_and_step k.listed.all) - lamp_length) (map gap_and_step k.listed.all) in
      omega arith

  lamp_one : (h : History S) (a b : Option (ℕ × ℕ)) → LampOf sound h a → LampOf sound h b → a ≡ b
  lamp_one h None None j k = refl
  lamp_one h None (Some b) j k = absurd (no_lamp h b j k)
  lamp_one h (Some a) None j k = absurd (no_lamp h a k j)
  lamp_one h (Some a) (Some b) j k =
      let e = list_one h k.list j.list k.listed j.listed in
      ap Some (shows_one j.list a b j.shows (subst (λ ls. Shows ls b.0 b.1) e k.shows))

  pub ones : Ones sound
  ones = record { answer = answer_one; run = λ h xs cs bs p r. run_one p r; best = best_one; lamp = lamp_one }
