-- What is read off the calls, with one call more.
use Rattle.std.proofs.Common.{◌≡◌, ℕ, ◌+◌, ◌-◌, Bool, true, false, cond, not, drop, List, [], ◌∷◌, ◌++◌, length, is_ok, Option, sym, refl, ap, ◌∙◌, arith}
use Rattle.std.specs.List.{flat_map, after_last, suffix_len, prefix_len}
use Rattle.std.specs.Option.{unwrap_or}
use Rattle.std.proofs.lemmas.List.{flat_map_more, append-nil, reverse-append, drop_all, drop-append-le, length_push}
use Rattle.std.proofs.lemmas.List.Sums.{fold_push}
use Rattle.finder.specs.History.{unloaded}
use Rattle.life.specs.Readings.{Event, last_found, accepted_of, begins_take, steps_of}
use Rattle.life.specs.Readings.{load_of, closing_of, history_by, closed_by, history_of, closed_of, given, used}
use Rattle.life.specs.Readings.{records_used_lem, done, CallByCall}
use Rattle.life.specs.declared.calls.Call.{Call}
use Rattle.life.specs.declared.calls.Call.TheVariants.{Load, Step, Run, Clear, Close, Reopen}

module _ {A : Type 0} (test : A → Bool) where
  abbrev behind : List A → ℕ
  behind xs = suffix_len (λ y. not (test y)) xs

  behind_push : (xs : List A) (x : A) → behind (xs ++ (x ∷ [])) ≡ cond (not (test x)) (1 + behind xs) 0
  behind_push xs x = ap (prefix_len (λ y. not (test y))) (reverse-append xs (x ∷ []))

  after_push_true : (xs : List A) (x : A) → test x ≡ true → after_last test (xs ++ (x ∷ [])) ≡ []
  after_push_true xs x h =
      let e : behind (xs ++ (x ∷ [])) ≡ 0 = behind_push xs x ∙ ap (λ b. cond (not b) (1 + behind xs) 0) h in
      drop_all (length (xs ++ (x ∷ [])) - behind (xs ++ (x ∷ []))) (xs ++ (x ∷ [])) (omega (arith, e))

  after_push_false : (xs : List A) (x : A) → test x ≡ false
      → after_last test (xs ++ (x ∷ [])) ≡ after_last test xs ++ (x ∷ [])
  after_push_false xs x h =
      let e : behind (xs ++ (x ∷ [])) ≡ 1 + behind xs = behind_push xs x ∙ ap (λ b. cond (not b) (1 + behind xs) 0) h in
      let n : length (xs ++ (x ∷ [])) - behind (xs ++ (x ∷ [])) ≡ length xs - behind xs =
      omega (arith, e, length_push xs x) in
      ap (λ m. drop m (xs ++ (x ∷ []))) n ∙ drop-append-le (length xs - behind xs) xs (x ∷ []) (omega arith)

last_push : {A B : Type 0} (find : A → Option B) (d : B) (xs : List A) (x : A)
    → last_found find d (xs ++ (x ∷ [])) ≡ unwrap_or (find x) (last_found find d xs)
unfolding last_found
last_push find d xs x = fold_push (λ b y. unwrap_or (find y) b) d xs x

joined_push : {X A : Type 0} (f : X → List A) (xs : List X) (x : X) → flat_map f (xs ++ (x ∷ [])) ≡ flat_map f xs ++ f x
joined_push f xs x = sym (flat_map_more f [] xs x)

module _ {S : Type 0} where
  kept_on : (ks : List (Call S)) (k : Call S) → begins_take k ≡ false
      → flat_map steps_of (after_last begins_take (ks ++ (k ∷ [])))
      ≡ flat_map steps_of (after_last begins_take ks) ++ steps_of k
  kept_on ks k h =
      ap (flat_map steps_of) (after_push_false begins_take ks k h)
      ∙ joined_push steps_of (after_last begins_take ks) k

  begun : (ks : List (Call S)) (k : Call S) → begins_take k ≡ true
      → flat_map steps_of (after_last begins_take (ks ++ (k ∷ []))) ≡ []
  begun ks k h = ap (flat_map steps_of) (after_push_true begins_take ks k h)

  read_push : (ks : List (Call S)) (k : Call S) {t : List S}
      → flat_map steps_of (after_last begins_take (ks ++ (k ∷ []))) ≡ t
      → history_by (ks ++ (k ∷ [])) ≡ (let l = unwrap_or (load_of k) (last_found load_of ([], 0) ks) in
      record { phrase = l.0; q = l.1; take = t })
  unfolding history_by
  read_push ks k f = let e = last_push load_of ([], 0) ks k in λ i. record { phrase = (e i).0; q = (e i).1; take = f i }

  done_push : (ks : List (Call S)) (k : Call S) → history_by (ks ++ (k ∷ [])) ≡ done (history_by ks) k
  unfolding history_by
  done_push ks (Load p q) = read_push ks (Load p q) (begun ks (Load p q) refl)
  done_push ks (Step x) = read_push ks (Step x) (kept_on ks (Step x) refl)
  done_push ks (Run p n) = read_push ks (Run p n) (kept_on ks (Run p n) refl)
  done_push ks Clear = read_push ks Clear (begun ks Clear refl)
  done_push ks Close =
      read_push ks Close (kept_on ks Close refl ∙ append-nil (flat_map steps_of (after_last begins_take ks)))
  done_push ks Reopen = read_push ks Reopen (begun ks Reopen refl)

  shut_push : (ks : List (Call S)) (k : Call S) → closed_by (ks ++ (k ∷ [])) ≡ unwrap_or (closing_of k) (closed_by ks)
  unfolding closed_by
  shut_push ks k = last_push closing_of false ks k

  accepted_push : (ks : List (Call S)) (es : List Event) (k : Call S) (e : Event) → length ks ≡ length es
      → accepted_of (ks ++ (k ∷ [])) (es ++ (e ∷ [])) ≡ accepted_of ks es ++ cond (is_ok e) (k ∷ []) []
  unfolding accepted_of
  accepted_push [] [] k e h = refl
  accepted_push [] (y ∷ es) k e h = absurd (omega arith)
  accepted_push (x ∷ ks) [] k e h = absurd (omega arith)
  accepted_push (x ∷ ks) (y ∷ es) k e h =
      let same : length ks ≡ length es = omega arith in go (is_ok y) (accepted_push ks es k e same)
    where
      go : (b : Bool)
          → accepted_of (ks ++ (k ∷ [])) (es ++ (e ∷ [])) ≡ accepted_of ks es ++ cond (is_ok e) (k ∷ []) []
          → cond b (x ∷ accepted_of (ks ++ (k ∷ [])) (es ++ (e ∷ []))) (accepted_of (ks ++ (k ∷ [])) (es ++ (e ∷ [])))
          ≡ cond b (x ∷ accepted_of ks es) (accepted_of ks es) ++ cond (is_ok e) (k ∷ []) []
      go true f = ap (λ z. x ∷ z) f
      go false f = f

  pub history_push : (ks : List (Call S)) (es : List Event) (k : Call S) (e : Event) → length ks ≡ length es
      → history_of (ks ++ (k ∷ [])) (es ++ (e ∷ [])) ≡ cond (is_ok e) (done (history_of ks es) k) (history_of ks es)
  history_push ks es k e h = ap history_by (accepted_push ks es k e h) ∙ go (is_ok e)
    where
      go : (b : Bool) → history_by (accepted_of ks es ++ cond b (k ∷ []) [])
          ≡ cond b (done (history_of ks es) k) (history_of ks es)
      go true = done_push (accepted_of ks es) k
      go false = ap history_by (append-nil (accepted_of ks es))

  pub closed_push : (ks : List (Call S)) (es : List Event) (k : Call S) (e : Event) → length ks ≡ length es
      → closed_of (ks ++ (k ∷ [])) (es ++ (e ∷ []))
      ≡ cond (is_ok e) (unwrap_or (closing_of k) (closed_of ks es)) (closed_of ks es)
  closed_push ks es k e h = ap closed_by (accepted_push ks es k e h) ∙ go (is_ok e)
    where
      go : (b : Bool) → closed_by (accepted_of ks es ++ cond b (k ∷ []) [])
          ≡ cond b (unwrap_or (closing_of k) (closed_of ks es)) (closed_of ks es)
      go true = shut_push (accepted_of ks es) k
      go false = ap closed_by (append-nil (accepted_of ks es))

  pub used_push : (ks : List (Call S)) (es : List Event) (k : Call S) (e : Event) → length ks ≡ length es
      → records_used_lem (ks ++ (k ∷ [])) (es ++ (e ∷ [])) ≡ records_used_lem ks es + used (given k) e
  unfolding records_used_lem
  used_push [] [] k e h = omega arith
  used_push [] (y ∷ es) k e h = absurd (omega arith)
  used_push (x ∷ ks) [] k e h = absurd (omega arith)
  used_push (x ∷ ks) (y ∷ es) k e h =
      let same : length ks ≡ length es = omega arith in
      let more = used_push ks es k e same in
      omega arith

unread : (S : Type 0) → history_of {S = S} [] [] ≡ unloaded
unfolding history_by accepted_of last_found
unread S = refl

unshut : (S : Type 0) → closed_of {S = S} [] [] ≡ false
unfolding closed_by accepted_of last_found
unshut S = refl

pub call_by_call_lem : (S : Type 0) → CallByCall S
call_by_call_lem S = record {
  history_at_first = unread S;
  rolling_at_first = unshut S;
  history_then = history_push;
  closed_then = closed_push;
}
