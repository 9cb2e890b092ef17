-- A step and a run that are not refused.
use Rattle.std.proofs.Common.{◌≡◌, ℕ, ◌+◌, ◌<◌, ◌≤◌, List, [], ◌∷◌, ◌++◌, length, get_or, set, take, Some, sym, ap, ◌∙◌, subst, take_all}
use Rattle.std.proofs.lemmas.List.{take_more, take_more_set}
use Rattle.terms.specs.Bettered.{better_of}
use Rattle.terms.specs.declared.answer.Answer.{Answer}
use Rattle.terms.specs.declared.answer.BestStretch.{BestStretch}
use Rattle.readers.specs.Memory.{Memory}
use Rattle.rows.specs.LampRings.{answers, answered}
use Rattle.rows.specs.declared.mark.Mark.{Mark}
use Rattle.finder.specs.Turns.{ListenTold, Turned, ReadsOff, PlayTold, PlayAllTold}
use Rattle.finder.specs.History.{ran, Played, none}
use Rattle.finder.specs.Slots.{Represents}
use Rattle.finder.specs.declared.slot.Lengths.{Lengths}
use Rattle.finder.specs.declared.slot.Slot.{Slot}
use Rattle.finder.proofs.Following.{represents_step}
use Rattle.finder.proofs.Ran.{ran_more, ran_none, played_push}

module _ {S R M : Type 0} (sound : S → ℕ) (memory : R → Memory) (marks : M → List Mark) where
  pub step_played : (s t : Slot S R M) (l : Lengths) (x : S) (a : Answer) (b : BestStretch) (c n : ℕ)
      → s.lengths ≡ Some l → ListenTold (memory s.reader) (sound x) (memory t.reader) c n
      → Turned (marks s.row) s.progress.recent t.progress.count c n (marks t.row) t.progress.recent
      → t.lengths ≡ s.lengths → t.progress.count ≡ s.progress.count + 1 → t.progress.last ≡ Some x
      → ReadsOff l.phrase l.figure t.progress.count (marks t.row) a → t.progress.best ≡ Some b → b ≡ better_of s.progress.best a
      → answers t.progress.lamp ≡ answered a.gap a.step (answers s.progress.lamp)
      → PlayTold sound memory marks s x a t
  step_played s t l x a b c n es hs turned et ec el off eb best ea = record {
    exact = λ h k. represents_step sound memory marks s t l h x a c n es k hs turned et ec el off (eb ∙ ap Some best) ea;
    lengths = et;
    longer = ec;
  }

  pub run_none : (s : Slot S R M) → PlayAllTold sound memory marks s [] s []
  run_none s = record { exact = λ h t. (none, subst (Represents sound memory marks s) (sym (ran_none h)) t) }

  pub run_more : (s t u : Slot S R M) (xs : List S) (i : ℕ) (x : S) (a : Answer) (bs : List Answer)
      → PlayAllTold sound memory marks s (take i xs) t (take i bs) → PlayTold sound memory marks t x a u
      → x ≡ get_or xs i x → i < length xs → i < length bs
      → PlayAllTold sound memory marks s (take (i + 1) xs) u (take (i + 1) (set bs i a))
  run_more s t u xs i x a bs k told is lx lb = record {
    exact = λ h r.
        let before = k.exact h r in
        let played = told.exact (ran h (take i xs)) before.1 in
        let more = take_more xs i x lx ∙ ap (λ y. take i xs ++ (y ∷ [])) (sym is) in
        let now_at = ran_more h (take i xs) x ∙ ap (ran h) (sym more) in (
          subst (λ zs. Played sound h zs (take (i + 1) (set bs i a))) (sym more)
              (subst (Played sound h (take i xs ++ (x ∷ []))) (sym (take_more_set bs i a lb)) (played_push sound x a before.0 played.0)),
          subst (Represents sound memory marks u) now_at played.1,
        );
  }

  pub run_done : (s t : Slot S R M) (xs : List S) (i : ℕ) (bs : List Answer)
      → PlayAllTold sound memory marks s (take i xs) t (take i bs) → length xs ≤ i → length bs ≤ i → PlayAllTold sound memory marks s xs t bs
  run_done s t xs i bs k lx lb =
      subst (λ zs. PlayAllTold sound memory marks s zs t bs) (take_all i xs lx) (subst (PlayAllTold sound memory marks s (take i xs) t) (take_all i bs lb) k)
