-- What a first line asks for is what its table lets through: "15, 8, 7". Assumes nothing.
use Prim.Native.Nat.{ℕ}
use mathlib.Core.Path.{◌≡◌, refl, sym, ap, ◌∙◌}
use mathlib.Core.Bool.{Bool, true, false, cond, not, ◌||◌}
use mathlib.Core.List.{List, [], ◌∷◌}
use mathlib.Core.Logic.{⊎_elim}
use native.Mathlib.Omega.{arith}
use Rattle.refusal.specs.Table.{first, Outcome}
use Rattle.refusal.specs.declared.Refusal.{Refusal}
use Rattle.refusal.specs.declared.Refusal.TheVariants.{UnknownDistance, UnknownLinkage, MalformedText}
use Rattle.refusal.proofs.Tables.{done_refused, table_hit, table_pass, none}
use Rattle.lent.proofs.Laws.{either}
use Rattle.text.specs.Bytes.{bytes, is_word}
use Rattle.linkage.specs.Names.{distance_named, linkage_named}
use Rattle.linkage.specs.declared.Distance.TheVariants.{Correlation, DistanceOfDistances}
use Rattle.linkage.specs.declared.Linkage.TheVariants.{Single, Complete, Average, Ward}
use Rattle.heading.specs.Heading.{field, is_hrp, is_hcaa, known_distance, known_linkage, distance_field, unknown_lines, head_lines, head_outcome, hrp_asked, hcaa_asked, head_of}
use Rattle.heading.proofs.FirstLine.{hrp_not_hcaa}
use Rattle.std.specs.Prelude.{Ok, Err}
use Rattle.heading.specs.Outcomes.{Heading}
use Rattle.linkage.specs.Outcomes.{NamedDistance, NamedLinkage}

-- ---- names that are not known are refused as such

distance_refused : (w : List ℕ) (r : Refusal) → distance_named w ≡ Err r → r ≡ UnknownDistance
unfolding distance_named
distance_refused w r e = go (is_word w (bytes "correlation")) (is_word w (bytes "distance_of_distances")) e
  where
    go : (a b : Bool) → cond a (Ok Correlation) (cond b (Ok DistanceOfDistances) (Err UnknownDistance)) ≡ Err r → r ≡ UnknownDistance
    go true b h = absurd (let z : ◌≡◌ {A = ℕ} 0 1 = cc in omega arith)
    go false true h = absurd (let z : ◌≡◌ {A = ℕ} 0 1 = cc in omega arith)
    go false false h = cc

linkage_refused : (w : List ℕ) (r : Refusal) → linkage_named w ≡ Err r → r ≡ UnknownLinkage
unfolding linkage_named
linkage_refused w r e = go (is_word w (bytes "single")) (is_word w (bytes "complete")) (is_word w (bytes "average")) (is_word w (bytes "ward")) e
  where
    go : (a b c d : Bool) → cond a (Ok Single) (cond b (Ok Complete) (cond c (Ok Average) (cond d (Ok Ward) (Err UnknownLinkage)))) ≡ Err r
        → r ≡ UnknownLinkage
    go true b c d h = absurd (let z : ◌≡◌ {A = ℕ} 0 1 = cc in omega arith)
    go false true c d h = absurd (let z : ◌≡◌ {A = ℕ} 0 1 = cc in omega arith)
    go false false true d h = absurd (let z : ◌≡◌ {A = ℕ} 0 1 = cc in omega arith)
    go false false false true h = absurd (let z : ◌≡◌ {A = ℕ} 0 1 = cc in omega arith)
    go false false false false h = cc

-- ---- of either kind of line

-- what is asked for, by how the table went
abbrev pub head_as : Outcome → Heading → Heading
head_as (Ok _) h = h
head_as (Err r) h = Err r

hrp_told : (x : NamedDistance) → ((r : Refusal) → x ≡ Err r → r ≡ UnknownDistance)
    → hrp_asked x ≡ head_as (first ((not (known_distance x), UnknownDistance) ∷ [])) (hrp_asked x)
unfolding first
hrp_told (Ok d) h = refl
hrp_told (Err r) h = ap Err (h r refl)

hcaa_told : (a : NamedLinkage) (x : NamedDistance)
    → ((r : Refusal) → a ≡ Err r → r ≡ UnknownLinkage)
    → ((r : Refusal) → x ≡ Err r → r ≡ UnknownDistance)
    → hcaa_asked a x ≡ head_as (first ((not (known_linkage a), UnknownLinkage) ∷ (not (known_distance x), UnknownDistance) ∷ [])) (hcaa_asked a x)
unfolding first
hcaa_told (Ok l) (Ok d) g h = refl
hcaa_told (Ok l) (Err r) g h = ap Err (h r refl)
hcaa_told (Err r) x g h = ap Err (g r refl)

hrp_kept : (x : NamedDistance) (k : Refusal) → not (known_distance x) ≡ false → hrp_asked x ≡ Err k → ⊥
hrp_kept (Ok d) k t e = let z : ◌≡◌ {A = ℕ} 0 1 = cc in omega arith
hrp_kept (Err r) k t e = let z : ◌≡◌ {A = ℕ} 0 1 = cc in omega arith

hcaa_kept : (a : NamedLinkage) (x : NamedDistance) (k : Refusal) → not (known_linkage a) ≡ false → not (known_distance x) ≡ false → hcaa_asked a x ≡ Err k → ⊥
hcaa_kept (Ok l) (Ok d) k s t e = let z : ◌≡◌ {A = ℕ} 0 1 = cc in omega arith
hcaa_kept (Ok l) (Err r) k s t e = let z : ◌≡◌ {A = ℕ} 0 1 = cc in omega arith
hcaa_kept (Err r) x k s t e = let z : ◌≡◌ {A = ℕ} 0 1 = cc in omega arith

pub or_right : (a b : Bool) → a ≡ false → (a || b) ≡ true → b ≡ true
or_right true b h e = absurd (let z : ◌≡◌ {A = ℕ} 0 1 = cc in omega arith)
or_right false b h e = e

pub or_none : (a b : Bool) → (a || b) ≡ false → (a ≡ false) × (b ≡ false)
or_none true b e = absurd (let z : ◌≡◌ {A = ℕ} 0 1 = cc in omega arith)
or_none false b e = (refl, e)

module _ (l : List ℕ) where
  unknown_hrp : is_hrp l ≡ true → first (unknown_lines l) ≡ first ((not (known_distance (distance_named (field l 1))), UnknownDistance) ∷ [])
  unfolding unknown_lines distance_field
  unknown_hrp e = table_pass _ UnknownLinkage _ (rw (hrp_not_hcaa l e)) ∙ rw e

  unknown_hcaa : is_hrp l ≡ false → is_hcaa l ≡ true
      → first (unknown_lines l) ≡ first ((not (known_linkage (linkage_named (field l 2))), UnknownLinkage) ∷ (not (known_distance (distance_named (field l 3))), UnknownDistance) ∷ [])
  unfolding unknown_lines distance_field
  unknown_hcaa e f = rw (e, f)

  -- a first line is one or the other
  module _ (one : (is_hrp l || is_hcaa l) ≡ true) where
    then_hcaa : is_hrp l ≡ false → is_hcaa l ≡ true
    then_hcaa e = or_right (is_hrp l) (is_hcaa l) e one

    pub asked_is : head_of l ≡ head_as (first (unknown_lines l)) (head_of l)
    unfolding head_of
    asked_is =
        ⊎_elim
        (λ e. rw (unknown_hrp e, e) (hrp_told (distance_named (field l 1)) (distance_refused (field l 1))))
        (λ e.
        let f = then_hcaa e in
        rw (unknown_hcaa e f, e, f) (hcaa_told (linkage_named (field l 2)) (distance_named (field l 3)) (linkage_refused (field l 2)) (distance_refused (field l 3))))
        (either (is_hrp l))

    pub asked_kept : first (unknown_lines l) ≡ Ok tt → (k : Refusal) → head_of l ≡ Err k → ⊥
    unfolding head_of
    asked_kept d k j =
        ⊎_elim
        (λ e. hrp_kept (distance_named (field l 1)) k (none _ (sym (unknown_hrp e) ∙ d)).0 (rw e at j))
        (λ e.
        let f = then_hcaa e in
        let t = none _ (sym (unknown_hcaa e f) ∙ d) in
        hcaa_kept (linkage_named (field l 2)) (distance_named (field l 3)) k t.0 t.1.0 (rw (e, f) at j))
        (either (is_hrp l))

    head_unknown : head_outcome l ≡ first (unknown_lines l)
    unfolding head_outcome head_lines
    head_unknown = table_pass _ MalformedText _ (ap not one)

  pub asked_none : (is_hrp l || is_hcaa l) ≡ false → head_of l ≡ Err MalformedText
  unfolding head_of
  asked_none e = let f = or_none (is_hrp l) (is_hcaa l) e in rw (f.0, f.1)

  head_none : (is_hrp l || is_hcaa l) ≡ false → head_outcome l ≡ Err MalformedText
  unfolding head_outcome head_lines
  head_none e = table_hit _ MalformedText _ (ap not e)

  pub head_is : head_of l ≡ head_as (head_outcome l) (head_of l)
  head_is =
      ⊎_elim
      (λ one. asked_is one ∙ ap (λ (o : Outcome). head_as o (head_of l)) (sym (head_unknown one)))
      (λ no. asked_none no ∙ ap (λ (o : Outcome). head_as o (head_of l)) (sym (head_none no)))
      (either (is_hrp l || is_hcaa l))

  pub head_kept : head_outcome l ≡ Ok tt → (k : Refusal) → head_of l ≡ Err k → ⊥
  head_kept d k e =
      ⊎_elim
      (λ one. asked_kept one (sym (head_unknown one) ∙ d) k e)
      (λ no. done_refused MalformedText (sym d ∙ head_none no))
      (either (is_hrp l || is_hcaa l))
