-- The digits of a number.
use Rattle.std.proofs.Common.{◌≡◌, ℕ, zero, suc, ◌+◌, ◌-◌, ◌*◌, ◌/◌, ◌%◌, ◌^◌, ◌<◌, ◌≤◌, List, [], ◌∷◌, ◌++◌, length, drop, sym, refl, ap, ◌∙◌, subst, ap₂, mul-le-mul_right, mod-eq_of_lt, add-mul, pow-suc, add-one, arith}
use native.Mathlib.Nat.{pow-zero, one-le-pow, pow-le-pow_right}
use lib.Arith.{mod-mul}
use Rattle.std.proofs.lemmas.List.{length_push, drop-append-le, same_from_push}
use Rattle.std.proofs.lemmas.Nat.{div-mul-add, mod-mul-add, div_below, div-add-mod', mod_below}
use Rattle.std.proofs.lemmas.Bool.{lt-ltb}
use Rattle.terms.specs.Marks.{newest}
use Rattle.readers.specs.Window.{digits, slid}

pub length_digits : (c k n : ℕ) → length (digits c k n) ≡ k
unfolding digits
length_digits c zero n = refl
length_digits c (suc k) n = length_push (digits c k (n / c)) (n % c) ∙ ap (λ v. v + 1) (length_digits c k (n / c)) ∙ add-one k

digits_push : (c k n x : ℕ) → x < c → digits c (k + 1) (n * c + x) ≡ digits c k n ++ (x ∷ [])
unfolding digits
digits_push c k n x h =
    ap (λ v. digits c v (n * c + x)) (add-one k) ∙ ap₂ (λ u v. digits c k u ++ (v ∷ [])) (div-mul-add n c x h) (mod-mul-add n c x h)

digits_step : (c k n : ℕ) → digits c (suc k) n ≡ digits c k (n / c) ++ (n % c ∷ [])
unfolding digits
digits_step c k n = refl

digits_mod : (c k n : ℕ) → 0 < c → digits c k (n % c ^ k) ≡ drop 1 (digits c (suc k) n)
digits_mod c zero n h = unfold digits in refl
digits_mod c (suc k) n h =
    let z : 0 < c ^ k = one-le-pow k c h in
    let e : n % c ^ suc k ≡ (n / c % c ^ k) * c + n % c = ap (λ v. n % v) (pow-suc c k) ∙ mod-mul n z h in
    let l = length_digits c (suc k) (n / c) in
    digits_step c k (n % c ^ suc k)
    ∙ ap (λ v. digits c k (v / c) ++ (v % c ∷ [])) e
    ∙ ap₂ (λ u v. digits c k u ++ (v ∷ [])) (div-mul-add (n / c % c ^ k) c (n % c) (mod_below n c h)) (mod-mul-add (n / c % c ^ k) c (n % c) (mod_below n c h))
    ∙ ap (λ v. v ++ (n % c ∷ [])) (digits_mod c k (n / c) h)
    ∙ sym (drop-append-le 1 (digits c (suc k) (n / c)) (n % c ∷ []) (omega arith))
    ∙ ap (drop 1) (sym (digits_step c (suc k) n))

pub digits_same : (c k n m : ℕ) → 0 < c → n < c ^ k → m < c ^ k → digits c k n ≡ digits c k m → n ≡ m
digits_same c zero n m z h g e = let a = pow-zero c in omega arith
digits_same c (suc k) n m z h g e =
    let s = same_from_push (digits c k (n / c)) (digits c k (m / c)) (n % c) (m % c) (sym (digits_step c k n) ∙ e ∙ digits_step c k m) in
    let p = pow-suc c k in
    let d = digits_same c k (n / c) (m / c) z (div_below n c (c ^ k) z (omega arith)) (div_below m c (c ^ k) z (omega arith)) s.0 in
    sym (div-add-mod' n c) ∙ ap₂ (λ u v. u * c + v) d s.1 ∙ div-add-mod' m c

-- a digit more
more_below : (a b c x : ℕ) → a < b → x < c → a * c + x < b * c
more_below a b c x h g =
    let m : (a + 1) * c ≤ b * c = mul-le-mul_right c (omega arith) in
    let e = add-mul a 1 c in
    omega arith

pub power_some : (b w p : ℕ) → 0 < b → p ≡ b ^ (w - 1) → 0 < p
power_some b w p z e = subst (λ v. 0 < v) (sym e) (one-le-pow (w - 1) b z)

power_whole : (b w p : ℕ) → 0 < w → p ≡ b ^ (w - 1) → p * b ≡ b ^ w
power_whole b w p z e =
    let s : suc (w - 1) ≡ w = omega arith in
    ap (λ v. v * b) e ∙ sym (pow-suc b (w - 1)) ∙ ap (λ v. b ^ v) s

pub fits : (b w p n x : ℕ) → 0 < b → 0 < w → p ≡ b ^ (w - 1) → x < b → n % p * b + x < b ^ w
fits b w p n x zb zw e h =
    let m = more_below (n % p) p b x (mod_below n p (power_some b w p zb e)) h in
    let k = power_whole b w p zw e in
    omega arith

keeps_number : (b w p n h : ℕ) → 0 < b → h < w → p ≡ b ^ (w - 1) → n < b ^ h → n % p ≡ n
keeps_number b w p n h zb l e k =
    let m : b ^ h ≤ b ^ (w - 1) = pow-le-pow_right zb (omega arith) in
    mod-eq_of_lt (omega arith)

pub below_more : (b w p n h x : ℕ) → 0 < b → h < w → p ≡ b ^ (w - 1) → n < b ^ h → x < b → n % p * b + x < b ^ (h + 1)
below_more b w p n h x zb l e k g =
    let m = more_below n (b ^ h) b x k g in
    let s = ap (λ v. b ^ v) (add-one h) ∙ pow-suc b h in
    let i = ap (λ v. v * b) (keeps_number b w p n h zb l e k) in
    omega arith

slid_is : (c w : ℕ) (ws : List ℕ) (x : ℕ) → x < c → slid c w ws x ≡ newest w (ws ++ (x ∷ []))
slid_is c w ws x h = rw (lt-ltb x c h)

pub slid_more : (b w p n h x : ℕ) → 0 < b → h < w → p ≡ b ^ (w - 1) → n < b ^ h → x < b → digits b (h + 1) (n % p * b + x) ≡ slid b w (digits b h n) x
slid_more b w p n h x zb l e k g =
    let d = length_push (digits b h n) x in
    let f = length_digits b h n in
    let z : length (digits b h n ++ (x ∷ [])) - w ≡ 0 = omega arith in
    ap (λ v. digits b (h + 1) (v * b + x)) (keeps_number b w p n h zb l e k) ∙ digits_push b h n x g ∙ ap (λ v. drop v (digits b h n ++ (x ∷ []))) (sym z) ∙ sym (slid_is b w (digits b h n) x g)

pub slid_full : (b w p n h x : ℕ) → 0 < b → 0 < w → h ≤ w → w ≤ h → p ≡ b ^ (w - 1) → x < b → digits b h (n % p * b + x) ≡ slid b w (digits b h n) x
slid_full b w p n h x zb zw l m e g =
    let d = length_push (digits b h n) x in
    let f = length_digits b h n in
    let z : length (digits b h n ++ (x ∷ [])) - w ≡ 1 = omega arith in
    let s : h ≡ (w - 1) + 1 = omega arith in
    let t : suc (w - 1) ≡ h = omega arith in
    ap (λ v. digits b v (n % p * b + x)) s ∙ ap (λ v. digits b ((w - 1) + 1) (n % v * b + x)) e ∙ digits_push b (w - 1) (n % b ^ (w - 1)) x g
    ∙ ap (λ v. v ++ (x ∷ [])) (digits_mod b (w - 1) n zb ∙ ap (λ v. drop 1 (digits b v n)) t) ∙ sym (drop-append-le 1 (digits b h n) (x ∷ []) (omega arith))
    ∙ ap (λ v. drop v (digits b h n ++ (x ∷ []))) (sym z) ∙ sym (slid_is b w (digits b h n) x g)
