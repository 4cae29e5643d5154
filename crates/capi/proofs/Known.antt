-- With names that are known, and with room for what a call has beside the answers of the call behind it, the two say the same. Assumes nothing.
use Prim.Native.Nat.{ℕ, ◌-◌, ◌*◌, ◌≤◌}
use mathlib.Core.Path.{◌≡◌, refl, sym, ap, ◌∙◌}
use mathlib.Core.Bool.{Bool, true, false, not}
use mathlib.Core.List.{List, [], ◌∷◌, ◌++◌, append_assoc}
use borrow.Author.Tests.{le-ltb}
use lib.Dec.{ltb, eqb}
use lib.ListN.{length}
use lib.Ieee.{Float}
use Rattle.refusal.specs.Table.{Line, first, and_then, Outcome}
use Rattle.refusal.specs.declared.Refusal.{Refusal}
use Rattle.refusal.specs.declared.Refusal.TheVariants.{DimensionMismatch, ShortBuffer}
use Rattle.refusal.proofs.Tables.{table_pass, table_end, first_append, then_done}
use Rattle.lent.specs.Lent.{sizes, Shape}
use Rattle.inputs.specs.Inputs.{matrix_lines}
use Rattle.tree.specs.Order.{order_table, order_outcome}
use Rattle.linkage.specs.Names.{distance_named, linkage_named}
use Rattle.linkage.specs.Children.{children_table, children_outcome}
use Rattle.linkage.specs.declared.Distance.{Distance}
use Rattle.linkage.specs.declared.Linkage.{Linkage}
use Rattle.parity.specs.Parity.{ParityRoom, parity_room_lines}
use Rattle.hrp.specs.Hrp.{HrpJob, hrp_shape_lines, number_lines, hrp_table, hrp_outcome, HrpAllocated}
use Rattle.hrp.specs.Inner.{hrp_job}
use Rattle.hierarchy.specs.Hierarchy as hierarchy
use Rattle.hcaa.specs.Inner.{hcaa_job}
use Rattle.hcaa.specs.Hcaa as hcaa
use Rattle.hcaa.proofs.Equal.{allocated}
use Rattle.foreign.specs.Foreign.{distance_says, linkage_says, distance_meant, linkage_meant, asked_lines, asked_laid, count_lines, merge_sizes, leaf_sizes}
use Rattle.foreign.proofs.Stages.{then_assoc, then_again, number_in}
use Rattle.capi.specs.Capi.{named_hrp_outcome, HrpAnswer, named_hcaa_outcome, HcaaAnswer, merge_outcome, leaf_outcome}
use Rattle.std.specs.Prelude.{Ok}
use Rattle.hcaa.specs.Outcomes.{Clusters}

-- ---- hierarchical risk parity

module _ (j : HrpJob) (name : List ℕ) (room : ParityRoom) (d : Distance) (e : distance_named name ≡ Ok d) where
  abbrev matrices : List Line
  matrices = matrix_lines j.assets j.prices_shape (length j.prices) j.returns_shape (length j.returns) j.covariance_shape (length j.covariance)

  abbrev rooms : List Line
  rooms = parity_room_lines j.assets room

  behind : hrp_outcome j room ≡ and_then (and_then (first matrices) (first rooms)) (first (hrp_shape_lines j ++ number_lines j))
  unfolding hrp_outcome hrp_table
  behind = first_append matrices _ ∙ ap (and_then (first matrices)) (first_append rooms _) ∙ sym (then_assoc _ _ _)

  pub hrp_outcome_lem : named_hrp_outcome j name room ≡ hrp_outcome j room
  unfolding named_hrp_outcome distance_says
  hrp_outcome_lem = sym (then_assoc _ _ _) ∙ then_again _ _ _ _ (rw e) behind

-- the answer, and every lent buffer, are those of `hrp::allocate` with that distance
module _ (n : ℕ) (p : List Float) (ps : Shape) (xs : List Float) (rs : Shape) (c : List Float) (cs : Shape) (by : List ℕ) (shrink : Bool) (name : List ℕ) (room : ParityRoom) (r : ℕ) (rows order : List ℕ) (weights correlations distances scratch : List Float) where
  abbrev call : Distance → HrpJob
  call d = hrp_job n p ps xs rs c cs by shrink d

  pub hrp_known : (d : Distance) → distance_named name ≡ Ok d → HrpAnswer (call (distance_meant (distance_named name))) name room r rows order weights correlations distances scratch
      → (r ≡ number_in (hrp_outcome (call d) room)) × HrpAllocated (call d) room (hrp_outcome (call d) room) rows order weights correlations distances scratch
  unfolding distance_meant
  hrp_known d e z =
      let y : HrpAnswer (call d) name room r rows order weights correlations distances scratch = rw e at z in
      let o = hrp_outcome_lem (call d) name room d e in
      (y.answer ∙ ap number_in o, record { answer = refl; buffers = rw o at y.buffers })

-- ---- hierarchical clustering-based asset allocation

-- the stages in their order: those that are judged once more by the call behind, and then the others
regroup : (a b x y z o : Outcome) → and_then a (and_then b (and_then x (and_then y (and_then z o)))) ≡ and_then (and_then a b) (and_then (and_then x (and_then y z)) o)
regroup a b x y z o = simp then_assoc

module _ (j : hcaa.HcaaJob) (link name : List ℕ) (room : hierarchy.Room) (count : ℕ) (l : Linkage) (d : Distance) (el : linkage_named link ≡ Ok l) (ed : distance_named name ≡ Ok d) (two : 2 ≤ count) where
  abbrev hcaa_matrices : List Line
  hcaa_matrices = matrix_lines j.assets j.prices_shape (length j.prices) j.returns_shape (length j.returns) j.covariance_shape (length j.covariance)

  hcaa_behind : (rest : List Line) → first (hcaa_matrices ++ (hierarchy.room_lines j.assets room ++ rest)) ≡ and_then (and_then (first hcaa_matrices) (first (hierarchy.room_lines j.assets room))) (first rest)
  hcaa_behind rest = first_append hcaa_matrices _ ∙ ap (and_then (first hcaa_matrices)) (first_append (hierarchy.room_lines j.assets room) rest) ∙ sym (then_assoc _ _ _)

  asked_fits : first (asked_lines count) ≡ Ok tt
  unfolding asked_lines
  asked_fits = table_pass _ ShortBuffer _ (le-ltb count 2 two) ∙ table_end

  names_known : and_then (first (asked_lines count)) (and_then (linkage_says (linkage_named link)) (distance_says (distance_named name))) ≡ Ok tt
  unfolding and_then linkage_says distance_says
  names_known = rw (asked_fits, el, ed)

  pub hcaa_outcome_lem : named_hcaa_outcome j link name room count ≡ hcaa.hcaa_outcome j room
  unfolding named_hcaa_outcome hcaa.hcaa_outcome hcaa.hcaa_table
  hcaa_outcome_lem = regroup _ _ _ _ _ _ ∙ then_again _ _ _ _ names_known (hcaa_behind _)

-- the answer, and every lent buffer, are those of `hcaa::allocate` with that linkage and that distance
module _ (n : ℕ) (p : List Float) (ps : Shape) (xs : List Float) (rs : Shape) (c : List Float) (cs : Shape) (e : List Float) (given : Bool) (metric method : List ℕ) (conf : Float) (k : Clusters) (by link name : List ℕ)
    (room : hierarchy.Room) (count r : ℕ) (rows order : List ℕ) (weights scratch : List Float) (asked : List ℕ) where
  abbrev split : Distance → Linkage → hcaa.HcaaJob
  split d l = hcaa_job n p ps xs rs c cs e given metric method conf k by d l

  pub hcaa_known : (l : Linkage) (d : Distance) → linkage_named link ≡ Ok l → distance_named name ≡ Ok d → 2 ≤ count
      → HcaaAnswer (split (distance_meant (distance_named name)) (linkage_meant (linkage_named link))) link name room count r rows order weights scratch asked
      → (r ≡ number_in (hcaa.hcaa_outcome (split d l) room)) × hcaa.HcaaAllocated (split d l) room (hcaa.hcaa_outcome (split d l) room) rows order weights scratch × (asked ≡ asked_laid (hcaa.hcaa_outcome (split d l) room) count)
  unfolding distance_meant linkage_meant
  hcaa_known l d el ed two z =
      let y : HcaaAnswer (split d l) link name room count r rows order weights scratch asked = rw (ed, el) at z in
      let o = hcaa_outcome_lem (split d l) link name room count l d el ed two in
      (y.answer ∙ ap number_in o, allocated (split d l) room _ rows order weights scratch refl (rw o at y.buffers), y.asked_is ∙ ap (λ x. asked_laid x count) o)

-- ---- the merge step

module _ (xs : List Float) (rows w : ℕ) (name : List ℕ) (room : ℕ) where
  children_behind : children_outcome xs rows w room ≡ and_then (first (merge_sizes (length xs) rows w room)) (first ((not (eqb rows w), DimensionMismatch) ∷ []))
  unfolding children_outcome children_table merge_sizes
  children_behind = ap first (sym (append_assoc (sizes (length xs) rows w) ((ltb room (2 * (w - 1)), ShortBuffer) ∷ []) _)) ∙ first_append _ _

  pub merge_known : (count : ℕ) → 1 ≤ count → (l : Linkage) → linkage_named name ≡ Ok l → merge_outcome xs rows w name room count ≡ children_outcome xs rows w room
  unfolding merge_outcome count_lines linkage_says
  merge_known count h l e =
      let c : first ((ltb count 1, ShortBuffer) ∷ []) ≡ (Ok tt) = table_pass _ ShortBuffer _ (le-ltb count 1 h) ∙ table_end in
      rw (then_done _ _ c) (then_again _ _ _ _ (rw e) children_behind)

-- ---- the leaf order

-- lines that are judged twice, and between them one that passes
passed : (a b : Bool) (q r s : Refusal) (l : List Line) → and_then (first ((a, q) ∷ (b, r) ∷ (false, s) ∷ [])) (first ((a, q) ∷ (b, r) ∷ l)) ≡ first ((a, q) ∷ (b, r) ∷ l)
unfolding first and_then
passed true b q r s l = refl
passed false true q r s l = refl
passed false false q r s l = refl

pub leaf_known : (rows : List ℕ) (n v room count : ℕ) → 1 ≤ count → leaf_outcome rows n v room count ≡ order_outcome rows n v room
unfolding leaf_outcome leaf_sizes order_outcome order_table
leaf_known rows n v room count h = rw (le-ltb count 1 h) (passed _ _ _ _ _ _)
