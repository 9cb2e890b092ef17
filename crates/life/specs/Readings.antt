-- What is read off a list of calls and their events: the calls that were accepted, the phrase and the take they led to,
-- whether the take is closed, and the records used up.
use Rattle.std.specs.Prelude.{◌≡◌, ℕ, ◌+◌, Bool, true, false, cond, List, [], ◌∷◌, ◌++◌, length, Some, None, Option, is_ok, Ok, Result}
use Rattle.std.specs.List.{flat_map, fold, after_last}
use Rattle.std.specs.Option.{unwrap_or}
use Rattle.finder.specs.History.{History, unloaded, loaded, cleared, stepped, ran}
use Rattle.life.specs.declared.calls.Call.{Call}
use Rattle.life.specs.declared.calls.Call.TheVariants.{Load, Step, Run, Clear, Close, Reopen}
use Rattle.life.specs.declared.calls.Done.{Done}
use Rattle.life.specs.declared.calls.Done.TheVariants.{Ran}
use Rattle.life.specs.declared.calls.Turned.{Turned}

-- an event: what an accepted call did, or why the call was turned away
abbrev pub Event : Type 0
Event = Result Done Turned

-- what is found in the last item in which anything is found, or d where there is none
unfoldable pub last_found : {A B : Type 0} → (A → Option B) → B → List A → B
last_found find d xs = fold (λ b x. unwrap_or (find x) b) d xs

module _ {S : Type 0} where
  -- the calls that were accepted, in order
  unfoldable pub accepted_of : List (Call S) → List Event → List (Call S)
  accepted_of [] es = []
  accepted_of (k ∷ ks) [] = []
  accepted_of (k ∷ ks) (e ∷ es) = cond (is_ok e) (k ∷ accepted_of ks es) (accepted_of ks es)

  -- the calls that begin an empty take
  abbrev pub begins_take : Call S → Bool
  begins_take (Load p q) = true
  begins_take Clear = true
  begins_take Reopen = true
  begins_take _ = false

  -- the steps that a call puts into the take
  abbrev pub steps_of : Call S → List S
  steps_of (Step x) = x ∷ []
  steps_of (Run p n) = p.now
  steps_of _ = []

  -- the phrase and the figure length that a call puts in
  abbrev pub load_of : Call S → Option (List S × ℕ)
  load_of (Load p q) = Some (p.now, q)
  load_of _ = None

  -- whether a call closes the take or opens it again
  abbrev pub closing_of : Call S → Option Bool
  closing_of Close = Some true
  closing_of Reopen = Some false
  closing_of _ = None

  -- of accepted calls: the phrase and the figure length of the last load, and the steps since the last load, clearing
  -- or reopening
  unfoldable pub history_by : List (Call S) → History S
  history_by ks = record {
    phrase = (last_found load_of ([], 0) ks).0;
    q = (last_found load_of ([], 0) ks).1;
    take = flat_map steps_of (after_last begins_take ks);
  }

  -- and whether the last closing or reopening was a closing
  unfoldable pub closed_by : List (Call S) → Bool
  closed_by ks = last_found closing_of false ks

  -- the same of any calls, with their events
  abbrev pub history_of : List (Call S) → List Event → History S
  history_of ks es = history_by (accepted_of ks es)

  abbrev pub closed_of : List (Call S) → List Event → Bool
  closed_of ks es = closed_by (accepted_of ks es)

  -- how many records a call is given
  abbrev pub given : Call S → ℕ
  given (Run p n) = n
  given _ = 0

  -- what a call tells of them; a record, so that it names the call
  pub record RecordsTold (k : Call S) (n : ℕ) : Type 0 where
    pub exact : n ≡ given k

-- how many of n records that a call is given it uses up: all of them where it is an accepted run
abbrev pub used : ℕ → Event → ℕ
used n (Ok Ran) = n
used n _ = 0

-- the records that the calls use up together
unfoldable pub records_used_lem : {S : Type 0} → List (Call S) → List Event → ℕ
records_used_lem [] es = 0
records_used_lem (k ∷ ks) [] = 0
records_used_lem (k ∷ ks) (e ∷ es) = used (given k) e + records_used_lem ks es

module _ {S : Type 0} where
  -- what an accepted call makes of a history
  abbrev pub done : History S → Call S → History S
  done h (Load p q) = loaded p.now q
  done h (Step x) = stepped h x
  done h (Run p n) = ran h p.now
  done h Clear = cleared h
  done h Close = h
  done h Reopen = cleared h

-- the same readings, call by call: an accepted call goes on from what is read off before it, any other alters nothing
pub record CallByCall (S : Type 0) : Type 0 where
  pub history_at_first : history_of {S = S} [] [] ≡ unloaded
  pub rolling_at_first : closed_of {S = S} [] [] ≡ false
  pub history_then : (ks : List (Call S)) (es : List Event) (k : Call S) (e : Event) → length ks ≡ length es
      → history_of (ks ++ (k ∷ [])) (es ++ (e ∷ [])) ≡ cond (is_ok e) (done (history_of ks es) k) (history_of ks es)
  pub closed_then : (ks : List (Call S)) (es : List Event) (k : Call S) (e : Event) → length ks ≡ length es
      → closed_of (ks ++ (k ∷ [])) (es ++ (e ∷ []))
      ≡ cond (is_ok e) (unwrap_or (closing_of k) (closed_of ks es)) (closed_of ks es)
