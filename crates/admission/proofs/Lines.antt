-- The tables of a call, one after another: the first that refuses, or the last. Assumes nothing.
use Prim.Native.Nat.{ℕ}
use mathlib.Core.Path.{◌≡◌, sym, ◌∙◌}
use mathlib.Core.List.{◌++◌}
use Rattle.refusal.specs.Table.{first}
use Rattle.refusal.specs.declared.Refusal.{Refusal}
use Rattle.refusal.proofs.Tables.{first_done, first_refused}
use Rattle.rooms.specs.Rooms.{Room, room_lines}
use Rattle.admission.specs.Admission.{HierarchyCall, hierarchy_size_lines, hierarchy_shape_lines, expected_lines, rule_lines, hierarchy_judge_table}
use Rattle.std.specs.Prelude.{Ok, Err}

module _ (q : HierarchyCall) (len rows w : ℕ) (room : Room) where
  pub sizes_refuse : (k : Refusal) → first (hierarchy_size_lines q len rows w) ≡ Err k → Err k ≡ first (hierarchy_judge_table q len rows w room)
  unfolding hierarchy_judge_table
  sizes_refuse k h = sym (first_refused (hierarchy_size_lines q len rows w) _ k h)

  module _ (a : first (hierarchy_size_lines q len rows w) ≡ Ok tt) where
    pub rooms_refuse : (k : Refusal) → first (room_lines w room) ≡ Err k → Err k ≡ first (hierarchy_judge_table q len rows w room)
    unfolding hierarchy_judge_table
    rooms_refuse k h = sym (first_done (hierarchy_size_lines q len rows w) _ a ∙ first_refused (room_lines w room) _ k h)

    module _ (b : first (room_lines w room) ≡ Ok tt) where
      pub shape_refuses : (k : Refusal) → first (hierarchy_shape_lines q rows w) ≡ Err k → Err k ≡ first (hierarchy_judge_table q len rows w room)
      unfolding hierarchy_judge_table
      shape_refuses k h = sym (first_done (hierarchy_size_lines q len rows w) _ a ∙ first_done (room_lines w room) _ b ∙ first_refused (hierarchy_shape_lines q rows w) _ k h)

      pub rule_judges : first (hierarchy_shape_lines q rows w) ≡ Ok tt → first (expected_lines q w ++ rule_lines q.rule w) ≡ first (hierarchy_judge_table q len rows w room)
      unfolding hierarchy_judge_table
      rule_judges d = sym (first_done (hierarchy_size_lines q len rows w) _ a ∙ first_done (room_lines w room) _ b ∙ first_done (hierarchy_shape_lines q rows w) _ d)
