-- The laws of halving, and of dividing by the sum. Assumes nothing.
use Prim.Native.Nat.{ℕ, zero, suc, ◌-◌, ◌≤◌}
use mathlib.Core.Path.{◌≡◌, refl, sym, ap, subst, ◌∙◌}
use mathlib.Core.Bool.{Bool, true, false, cond}
use mathlib.Core.List.{List, [], ◌∷◌}
use native.Mathlib.Nat.{not-suc-le-zero, le_refl, le_antisymm}
use native.Mathlib.Omega.{arith}
use lib.ListN.{length, get_or, set, take, drop, length-drop, length-set, length-replicate}
use lib.Seq.{length-take-le, take_all}
use lib.Ieee.{Float, nan, binary64, mul, sub, div, lt}
use Rattle.arithmetic.specs.Constants.{pz, unit}
use Rattle.refusal.specs.Table.{Outcome}
use Rattle.refusal.specs.declared.Refusal.{Refusal}
use Rattle.lent.specs.Grid.{zeros, tab, over, sum_to}
use Rattle.lent.proofs.Laws.{length_tab, over_all_lem}
use Rattle.clusters.specs.Clusters.{variance_answer}
use Rattle.clusters.specs.Shares.{Shares, none, some, with_shares, with_risk}
use Rattle.clusters.specs.Inner.{shared}
use Rattle.bisection.specs.Bisection.{factor_of, middle, sides_factor, halved, bisected, normal, bisection_shares}
use Rattle.std.specs.Prelude.{Ok, Err}
use Rattle.clusters.specs.Outcomes.{Risk}

risk_ext : (v : Risk) (f g : Float → Shares) → ((x : Float) → f x ≡ g x) → with_risk v f ≡ with_risk v g
risk_ext (Err k) f g h = refl
risk_ext (Ok x) f g h = h x

then_ext : (s t : Shares) (f g : List Float → Shares) → s ≡ t → ((x : List Float) → f x ≡ g x) → with_shares s f ≡ with_shares t g
then_ext s t f g e h = ap (λ (q : Shares). with_shares q f) e ∙ at t
  where
    at : (q : Shares) → with_shares q f ≡ with_shares q g
    at none = refl
    at (some x) = h x

-- ---- the two halves

left_length : (part : List ℕ) → length (take (middle part) part) ≡ middle part
left_length part = length-take-le (middle part) part (omega arith)

right_length : (part : List ℕ) → length (drop (middle part) part) ≡ length part - middle part
right_length part = length-drop (middle part) part

-- the slice part that starts in the middle
rest_whole : (part : List ℕ) → take (length part - middle part) (drop (middle part) part) ≡ drop (middle part) part
rest_whole part = take_all (length part - middle part) (drop (middle part) part) (let r = right_length part in omega arith)

-- ---- the factor of two halves

module _ (cov : List Float) (n : ℕ) (part : List ℕ) where
  pub split_left : (v : Risk) (k : Refusal) → v ≡ variance_answer cov n n (take (middle part) part) → v ≡ Err k → Err k ≡ sides_factor cov n part
  unfolding sides_factor
  split_left v k e h = rw (← e, h)

  module _ (v w : Risk) (x : Float) (e : v ≡ variance_answer cov n n (take (middle part) part)) (h : v ≡ Ok x) (g : w ≡ variance_answer cov n n (take (length part - middle part) (drop (middle part) part))) where
    pub split_right : (k : Refusal) → w ≡ Err k → Err k ≡ sides_factor cov n part
    unfolding sides_factor
    split_right k q = rw (← rest_whole part, ← e, h, ← g, q)

    pub split_both : (y f : Float) → w ≡ Ok y → f ≡ factor_of x y → Ok f ≡ sides_factor cov n part
    unfolding sides_factor
    split_both y f q p = rw (p, ← rest_whole part, ← e, h, ← g, q)

-- ---- sharing, without the bound on the depth: any that is long enough serves

enough : (d e : ℕ) (cov : List Float) (n : ℕ) (part : List ℕ) (w : Float) (ws : List Float) → length part ≤ d → length part ≤ e → halved d cov n part w ws ≡ halved e cov n part w ws
unfolding halved
enough zero zero cov n part w ws h g = refl
enough zero (suc e) cov n [] w ws h g = refl
enough zero (suc e) cov n (a ∷ part) w ws h g = absurd (not-suc-le-zero h)
enough (suc d) zero cov n [] w ws h g = refl
enough (suc d) zero cov n (a ∷ part) w ws h g = absurd (not-suc-le-zero g)
enough (suc d) (suc e) cov n [] w ws h g = refl
enough (suc d) (suc e) cov n (a ∷ []) w ws h g = refl
enough (suc d) (suc e) cov n (a ∷ b ∷ more) w ws h g =
    let part = a ∷ b ∷ more in
    let l = left_length part in
    let r = right_length part in
    risk_ext (sides_factor cov n part) _ _
    (λ f. then_ext _ _ _ _
    (enough d e cov n (take (middle part) part) (mul binary64 w f) ws (omega arith) (omega arith))
    (λ mid. enough d e cov n (drop (middle part) part) (mul binary64 w (sub binary64 unit f)) mid (omega arith) (omega arith)))

pub bisect_none : (cov : List Float) (n : ℕ) (part : List ℕ) (w : Float) (ws : List Float) → length part ≡ 0 → bisected cov n part w ws ≡ some ws
unfolding halved bisected
bisect_none cov n [] w ws e = refl
bisect_none cov n (a ∷ part) w ws e = absurd (omega arith)

pub bisect_one : (cov : List Float) (n : ℕ) (part : List ℕ) (w : Float) (ws : List Float) → length part ≡ 1 → bisected cov n part w ws ≡ some (set ws (get_or part 0 0) w)
unfolding halved bisected
bisect_one cov n [] w ws e = absurd (omega arith)
bisect_one cov n (a ∷ []) w ws e = refl
bisect_one cov n (a ∷ b ∷ part) w ws e = absurd (omega arith)

pub bisect_two : (cov : List Float) (n : ℕ) (part : List ℕ) (w : Float) (ws : List Float) → 2 ≤ length part
    → bisected cov n part w ws
    ≡ with_risk (sides_factor cov n part)
    (λ f. with_shares (bisected cov n (take (middle part) part) (mul binary64 w f) ws)
    (λ mid. bisected cov n (drop (middle part) part) (mul binary64 w (sub binary64 unit f)) mid))
unfolding halved bisected
bisect_two cov n [] w ws h = absurd (omega arith)
bisect_two cov n (a ∷ []) w ws h = absurd (omega arith)
bisect_two cov n (a ∷ b ∷ more) w ws h =
    let part = a ∷ b ∷ more in
    let l = left_length part in
    let r = right_length part in
    risk_ext (sides_factor cov n part) _ _
    (λ f. then_ext _ _ _ _
    (enough (suc (length more)) (length (take (middle part) part)) cov n (take (middle part) part) (mul binary64 w f) ws (omega arith) (le_refl _))
    (λ mid. enough (suc (length more)) (length (drop (middle part) part)) cov n (drop (middle part) part) (mul binary64 w (sub binary64 unit f)) mid (omega arith) (le_refl _)))

module _ (cov : List Float) (n : ℕ) (part : List ℕ) (w : Float) (ws : List Float) (h : 2 ≤ length part) where
  abbrev onward : Risk → Shares
  onward v = with_risk v (λ f. with_shares (bisected cov n (take (middle part) part) (mul binary64 w f) ws)
      (λ mid. bisected cov n (drop (middle part) part) (mul binary64 w (sub binary64 unit f)) mid))

  pub no_split : (k : Refusal) → sides_factor cov n part ≡ Err k → bisected cov n part w ws ≡ none
  no_split k e = bisect_two cov n part w ws h ∙ ap onward e

  module _ (f : Float) (e : sides_factor cov n part ≡ Ok f) (o : Outcome) (mid : List Float) (one : shared o mid ≡ bisected cov n (take (middle part) part) (mul binary64 w f) ws) where
    abbrev second : Shares → Shares
    second s = with_shares s (λ m. bisected cov n (drop (middle part) part) (mul binary64 w (sub binary64 unit f)) m)

    went : bisected cov n part w ws ≡ second (shared o mid)
    went = bisect_two cov n part w ws h ∙ ap onward e ∙ ap second (sym one)

    pub left_refused : (k : Refusal) → o ≡ Err k → bisected cov n part w ws ≡ none
    unfolding shared
    left_refused k q = went ∙ ap (λ (p : Outcome). second (shared p mid)) q

    pub both_halves : {s : Shares} → o ≡ Ok tt → s ≡ bisected cov n (take (length part - middle part) (drop (middle part) part)) (mul binary64 w (sub binary64 unit f)) mid → s ≡ bisected cov n part w ws
    unfolding shared
    both_halves q two =
        two ∙ ap (λ (p : List ℕ). bisected cov n p (mul binary64 w (sub binary64 unit f)) mid) (rest_whole part)
        ∙ sym (went ∙ ap (λ (p : Outcome). second (shared p mid)) q)

-- ---- dividing in place

pub tab_all : (d l : List Float) (f : ℕ → Float) (k : ℕ) → d ≡ over (tab k f) l → k ≤ length l → length l ≤ k → d ≡ tab (length l) f
tab_all d l f k e h g = e ∙ ap (λ (m : ℕ). over (tab m f) l) (le_antisymm h g) ∙ over_all_lem (tab (length l) f) l (length_tab (length l) f)

module _ (ws after : List Float) (s : Float) (e : s ≡ sum_to (length ws) (λ k. get_or ws k nan)) where
  pub normal_yes : lt pz s ≡ true → after ≡ tab (length ws) (λ k. div binary64 (get_or ws k nan) s) → after ≡ normal ws
  unfolding normal
  normal_yes h g = g ∙ rw (← e, h)

  pub normal_no : lt pz s ≡ false → ws ≡ normal ws
  unfolding normal
  normal_no h = rw (← e, h)

-- ---- the weights

module _ (cov : List Float) (n : ℕ) (order : List ℕ) (o : Outcome) (mid : List Float) (e : shared o mid ≡ bisected cov n order unit (zeros n)) where
  pub share_no : (k : Refusal) → o ≡ Err k → none ≡ bisection_shares cov n order
  unfolding bisection_shares shared
  share_no k h = rw (← e, h)

  pub share_yes : o ≡ Ok tt → (after : List Float) → after ≡ normal mid → some after ≡ bisection_shares cov n order
  unfolding bisection_shares shared
  share_yes h after g = rw (← e, h, g)

-- ---- there are as many weights as assets

-- where there are weights, there are k
abbrev Long : ℕ → Shares → Type 0
Long k none = Unit
Long k (some ws) = length ws ≡ k

long_risk : (k : ℕ) (v : Risk) (f : Float → Shares) → ((x : Float) → Long k (f x)) → Long k (with_risk v f)
long_risk k (Err r) f h = tt
long_risk k (Ok x) f h = h x

long_then : (k : ℕ) (s : Shares) (f : List Float → Shares) → Long k s → ((ws : List Float) → length ws ≡ k → Long k (f ws)) → Long k (with_shares s f)
long_then k none f l h = tt
long_then k (some ws) f l h = h ws l

long_halved : (d : ℕ) (cov : List Float) (n : ℕ) (part : List ℕ) (w : Float) (ws : List Float) (k : ℕ) → length ws ≡ k → Long k (halved d cov n part w ws)
unfolding halved
long_halved zero cov n part w ws k h = h
long_halved (suc d) cov n [] w ws k h = h
long_halved (suc d) cov n (a ∷ []) w ws k h = length-set ws a w ∙ h
long_halved (suc d) cov n (a ∷ b ∷ more) w ws k h =
    let part = a ∷ b ∷ more in
    long_risk k (sides_factor cov n part) _
    (λ f.
    long_then k (halved d cov n (take (middle part) part) (mul binary64 w f) ws)
    (λ mid. halved d cov n (drop (middle part) part) (mul binary64 w (sub binary64 unit f)) mid)
    (long_halved d cov n (take (middle part) part) (mul binary64 w f) ws k h)
    (λ mid l. long_halved d cov n (drop (middle part) part) (mul binary64 w (sub binary64 unit f)) mid k l))

long_normal : (ws : List Float) → length (normal ws) ≡ length ws
unfolding normal
long_normal ws = go (lt pz (sum_to (length ws) (λ k. get_or ws k nan)))
  where
    go : (b : Bool) → length (cond b (tab (length ws) (λ k. div binary64 (get_or ws k nan) (sum_to (length ws) (λ j. get_or ws j nan)))) ws) ≡ length ws
    go true = length_tab (length ws) _
    go false = refl

long_weights : (cov : List Float) (n : ℕ) (order : List ℕ) → Long n (bisection_shares cov n order)
unfolding bisection_shares bisected
long_weights cov n order =
    long_then n (bisected cov n order unit (zeros n)) _
    (long_halved (length order) cov n order unit (zeros n) n (length-replicate n pz))
    (λ ws l. long_normal ws ∙ l)

pub weights_length : (cov : List Float) (n : ℕ) (order : List ℕ) (ws : List Float) → bisection_shares cov n order ≡ some ws → length ws ≡ n
weights_length cov n order ws e = subst (Long n) e (long_weights cov n order)
