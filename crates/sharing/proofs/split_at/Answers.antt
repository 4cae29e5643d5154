-- `sharing::split_at` meets its contract. Assumes nothing.
use Rattle.sharing.proofs.Laws.{few_rows, split_right, blank_again}
use Rattle.sharing.proofs.split_at.Goals as goal

pub series_room-m-requires : goal.series_room-m-requires
series_room-m-requires c = few_rows c.requires.fed

pub returns : goal.returns
returns c = record {
  value = split_right c.requires.blank c.series_room-m.ensures.upper_bound c.requires.fed c.series_room-m.ensures.value _ _ _ _ c.split_factor.ensures.value;
  scratch_unchanged = blank_again c.requires.blank c.series_room-m.ensures.upper_bound c.split_factor.ensures.scratch_after;
}
