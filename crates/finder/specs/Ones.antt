-- What is owed of a history is one thing only.
use Rattle.std.specs.Prelude.{◌≡◌, ℕ, List, Option}
use Rattle.terms.specs.declared.answer.Answer.{Answer}
use Rattle.terms.specs.declared.answer.BestStretch.{BestStretch}
use Rattle.finder.specs.History.{History, Answered, Played, BestOf, LampOf}

pub record Ones {S : Type 0} (sound : S → ℕ) : Type 0 where
  pub answer : (h : History S) (a b : Answer) → Answered sound h a → Answered sound h b → a ≡ b
  pub run : (h : History S) (xs : List S) (bs cs : List Answer) → Played sound h xs bs → Played sound h xs cs → bs ≡ cs
  pub best : (h : History S) (a b : Option BestStretch) → BestOf sound h a → BestOf sound h b → a ≡ b
  pub lamp : (h : History S) (a b : Option (ℕ × ℕ)) → LampOf sound h a → LampOf sound h b → a ≡ b
