use Rattle.std.proofs.Common.{◌≡◌, Bool, true, false, refl, ◌∙◌, subst}
use Rattle.finder.specs.History.{History}
use Rattle.finder.specs.Slots.{Represents}
use Rattle.life.proofs.Linking.{staged, chain_life, link_kept}
use Rattle.life.proofs.Obeying.{at_stage, shut, life_law, life_history, life_closed}
use Rattle.life.proofs.chains.any_chain.Goals as goal

shut_is : {S : Type 0} (b : Bool) (h : History S) → b ≡ shut (staged b h)
shut_is true h = refl
shut_is false h = refl

at_is : {S : Type 0} (b : Bool) (h : History S) → h ≡ at_stage (staged b h)
at_is true h = refl
at_is false h = refl

pub returns : goal.returns
returns g c =
    let sound = g.S.Step.sound in
    let memory = g.R.Reader.memory in
    let marks = g.M.Row.marks in
    let n = g.S.Step.SOUNDS in
    let reach = g.R.Reader.reaches n in
    record {
      law = λ ks es rs b s ch. life_law sound reach n (chain_life sound memory marks reach n ch).1;
      stands = λ ks es rs b s ch.
          let a = chain_life sound memory marks reach n ch in (
            shut_is b a.0 ∙ life_closed sound reach n a.1,
            subst (Represents sound memory marks s) (at_is b a.0 ∙ life_history sound reach n a.1) a.2,
          );
      kept = λ b d s t k e bs l. link_kept sound memory marks reach n l;
    }
