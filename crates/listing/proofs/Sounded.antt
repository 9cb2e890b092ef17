-- The sounds of a row of steps, read off its bytes one step at a time.
use Rattle.std.proofs.Common.{◌≡◌, ℕ, ◌<◌, ◌≤◌, List, [], ◌∷◌, ◌++◌, map, length, take, drop, sym, refl, ap, ◌∙◌, append_assoc, append-nil, arith, length-append}
use lib.ListN.{length-map}
use Rattle.std.proofs.lemmas.List.{take_at, drop_at}
use Rattle.std.specs.List.{flat_map}
use Rattle.sheets.specs.Layout.{Written}

-- the sounds of xs are those in done and then those of steps with the bytes rest
pub record Left {S : Type 0} (bytes : S → List ℕ) (sound : S → ℕ) (rest done : List ℕ) (xs : List S) : Type 0 where
  pub steps : List S
  pub are : flat_map bytes steps ≡ rest
  pub sounds : map sound xs ≡ done ++ map sound steps

-- a first step has the bytes in front, and the others have the rest
record Parted {S : Type 0} (bytes : S → List ℕ) (front rest : List ℕ) (steps : List S) : Type 0 where
  pub first : S
  pub others : List S
  pub is : bytes first ≡ front
  pub are : flat_map bytes others ≡ rest
  pub both : steps ≡ first ∷ others

module _ {S : Type 0} {bytes : S → List ℕ} {w : ℕ} (sized : (x : S) → length (bytes x) ≡ w) where
  module _ (some : 1 ≤ w) (all front rest : List ℕ) (split : all ≡ front ++ rest) (wide : length front ≡ w) where
    parted : (steps : List S) → flat_map bytes steps ≡ front ++ rest → Parted bytes front rest steps
    parted [] e = absurd (omega (arith, ap length e, length-append front rest))
    parted (x ∷ xs) e = record {
      first = x;
      others = xs;
      is = sym (take_at (bytes x) (flat_map bytes xs) w (sized x)) ∙ ap (take w) e ∙ take_at front rest w wide;
      are = sym (drop_at (bytes x) (flat_map bytes xs) w (sized x)) ∙ ap (drop w) e ∙ drop_at front rest w wide;
      both = refl;
    }

    module _ {sound : S → ℕ} {done : List ℕ} {xs : List S} (h : Left bytes sound all done xs) where
      p : Parted bytes front rest h.steps
      p = parted h.steps (h.are ∙ split)

      pub one_written : Written bytes front
      one_written = (p.first, p.is)

      pub one_fits : length done < length xs
      one_fits = omega (arith, ap length h.sounds, length-map xs sound, length-append done (map sound h.steps), ap (λ (s : List S). length (map sound s)) p.both)

      pub one_less : (r : ℕ) (more : List ℕ) → more ≡ done ++ (r ∷ []) → ((x : S) → bytes x ≡ front → r ≡ sound x) → Left bytes sound rest more xs
      one_less r more e f = record {
        steps = p.others;
        are = p.are;
        sounds =
            h.sounds ∙ ap (λ (s : List S). done ++ map sound s) p.both ∙ ap (λ y. done ++ (y ∷ map sound p.others)) (sym (f p.first p.is))
            ∙ sym (append_assoc done (r ∷ []) (map sound p.others)) ∙ ap (λ d. d ++ map sound p.others) (sym e);
      }

  -- fewer bytes than a step has are no step's
  pub none_left : {sound : S → ℕ} {rest done : List ℕ} {xs : List S} → length rest < w → Left bytes sound rest done xs → done ≡ map sound xs
  none_left {sound} {rest} {done} l h = sym (h.sounds ∙ ap (λ (s : List S). done ++ map sound s) (nil h.steps h.are) ∙ append-nil done)
    where
      nil : (steps : List S) → flat_map bytes steps ≡ rest → steps ≡ []
      nil [] e = refl
      nil (x ∷ ys) e = absurd (omega (arith, ap length e, length-append (bytes x) (flat_map bytes ys), sized x))
