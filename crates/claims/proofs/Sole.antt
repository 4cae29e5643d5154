-- No second answer fits: for each public function CRATE::FUNCTION of the libraries a theorem CRATE_FUNCTION on its own contract, which the check reads off its `ensures`: CRATE_FUNCTION_reads.Post.
-- Four functions return a part of a slice, `fields::piece`, `fields::last_piece`, `names::name` and `branches::members`: their contracts say what it has, and leave open where it lies.
-- A double is the logic's, which has one NaN. Assumes nothing.
use Prim.Native.Nat.{ℕ}
use mathlib.Core.Path.{◌≡◌, refl, sym, ◌∙◌}
use mathlib.Core.List.{List}
use lib.Ieee.{Float}
use denote.RattleType.{RattleType}
use denote.Param.Laws.{Laws, IsCopy}
use mir.Syntax.{Dict}
use Rattle.std.specs.declared.clone.Clone.{Ghosts as Clones}
use Rattle.lent.specs.declared.Zero.{Ghosts as Zeros}
use Rattle.std.specs.Prelude.{Ok, Err}
use Rattle.linkage.specs.declared.Distance.{Distance}
use Rattle.linkage.specs.declared.Linkage.{Linkage}
use Rattle.parity.specs.Parity as parity
use Rattle.hierarchy.specs.Hierarchy as hierarchy
use Rattle.claims.specs.Sole.{Sole, SoleOf}
use Rattle.arithmetic.specs.contracts.max as the_arithmetic_max
use Rattle.arithmetic.proofs.max.Reads as arithmetic_max_reads
use Rattle.arithmetic.specs.contracts.min as the_arithmetic_min
use Rattle.arithmetic.proofs.min.Reads as arithmetic_min_reads
use Rattle.arithmetic.specs.contracts.clamp as the_arithmetic_clamp
use Rattle.arithmetic.proofs.clamp.Reads as arithmetic_clamp_reads
use Rattle.arithmetic.specs.contracts.abs as the_arithmetic_abs
use Rattle.arithmetic.proofs.abs.Reads as arithmetic_abs_reads
use Rattle.arithmetic.specs.contracts.is_finite as the_arithmetic_is_finite
use Rattle.arithmetic.proofs.is_finite.Reads as arithmetic_is_finite_reads
use Rattle.arithmetic.specs.contracts.count as the_arithmetic_count
use Rattle.arithmetic.proofs.count.Reads as arithmetic_count_reads
use Rattle.arithmetic.specs.contracts.from_bits as the_arithmetic_from_bits
use Rattle.arithmetic.proofs.from_bits.Reads as arithmetic_from_bits_reads
use Rattle.arithmetic.specs.contracts.to_bits as the_arithmetic_to_bits
use Rattle.arithmetic.proofs.to_bits.Reads as arithmetic_to_bits_reads
use Rattle.arithmetic.specs.contracts.settled as the_arithmetic_settled
use Rattle.arithmetic.proofs.settled.Reads as arithmetic_settled_reads
use Rattle.arithmetic.specs.contracts.one_over as the_arithmetic_one_over
use Rattle.arithmetic.proofs.one_over.Reads as arithmetic_one_over_reads
use Rattle.arithmetic.specs.contracts.sqrt as the_arithmetic_sqrt
use Rattle.arithmetic.proofs.sqrt.Reads as arithmetic_sqrt_reads
use Rattle.refusal.specs.contracts.Refusal.number as the_refusal_number
use Rattle.refusal.proofs.Refusal.number.Reads as refusal_number_reads
use Rattle.refusal.specs.contracts.Refusal.requested as the_refusal_requested
use Rattle.refusal.proofs.Refusal.requested.Reads as refusal_requested_reads
use Rattle.refusal.specs.contracts.Refusal.assets as the_refusal_assets
use Rattle.refusal.proofs.Refusal.assets.Reads as refusal_assets_reads
use Rattle.refusal.specs.contracts.refuse as the_refusal_refuse
use Rattle.refusal.proofs.refuse.Reads as refusal_refuse_reads
use Rattle.refusal.specs.contracts.and_then as the_refusal_and_then
use Rattle.refusal.proofs.and_then.Reads as refusal_and_then_reads
use Rattle.refusal.specs.contracts.both as the_refusal_both
use Rattle.refusal.proofs.both.Reads as refusal_both_reads
use Rattle.refusal.specs.contracts.either as the_refusal_either
use Rattle.refusal.proofs.either.Reads as refusal_either_reads
use Rattle.lent.specs.contracts.clear as the_lent_clear
use Rattle.lent.proofs.clear.Reads as lent_clear_reads
use Rattle.lent.specs.contracts.clear_from as the_lent_clear_from
use Rattle.lent.proofs.clear_from.Reads as lent_clear_from_reads
use Rattle.lent.specs.contracts.copy as the_lent_copy
use Rattle.lent.proofs.copy.Reads as lent_copy_reads
use Rattle.lent.specs.contracts.over_limit as the_lent_over_limit
use Rattle.lent.proofs.over_limit.Reads as lent_over_limit_reads
use Rattle.lent.specs.contracts.has_other_length as the_lent_has_other_length
use Rattle.lent.proofs.has_other_length.Reads as lent_has_other_length_reads
use Rattle.lent.specs.contracts.shape_if as the_lent_shape_if
use Rattle.lent.proofs.shape_if.Reads as lent_shape_if_reads
use Rattle.lent.specs.contracts.too_big as the_lent_too_big
use Rattle.lent.proofs.too_big.Reads as lent_too_big_reads
use Rattle.lent.specs.contracts.is_misfit as the_lent_is_misfit
use Rattle.lent.proofs.is_misfit.Reads as lent_is_misfit_reads
use Rattle.lent.specs.contracts.sized as the_lent_sized
use Rattle.lent.proofs.sized.Reads as lent_sized_reads
use Rattle.lent.specs.contracts.squared as the_lent_squared
use Rattle.lent.proofs.squared.Reads as lent_squared_reads
use Rattle.lent.specs.contracts.answered as the_lent_answered
use Rattle.lent.proofs.answered.Reads as lent_answered_reads
use Rattle.lent.specs.contracts.told as the_lent_told
use Rattle.lent.proofs.told.Reads as lent_told_reads
use Rattle.lent.specs.contracts.lacks_rows as the_lent_lacks_rows
use Rattle.lent.proofs.lacks_rows.Reads as lent_lacks_rows_reads
use Rattle.lent.specs.contracts.lacks_cells as the_lent_lacks_cells
use Rattle.lent.proofs.lacks_cells.Reads as lent_lacks_cells_reads
use Rattle.text.specs.contracts.same as the_text_same
use Rattle.text.proofs.same.Reads as text_same_reads
use Rattle.text.specs.contracts.is_word as the_text_is_word
use Rattle.text.proofs.is_word.Reads as text_is_word_reads
use Rattle.fields.specs.contracts.end_of as the_fields_end_of
use Rattle.fields.proofs.end_of.Reads as fields_end_of_reads
use Rattle.fields.specs.contracts.count as the_fields_count
use Rattle.fields.proofs.count.Reads as fields_count_reads
use Rattle.fields.specs.contracts.piece as the_fields_piece
use Rattle.fields.proofs.piece.Reads as fields_piece_reads
use Rattle.fields.specs.contracts.last_piece as the_fields_last_piece
use Rattle.fields.proofs.last_piece.Reads as fields_last_piece_reads
use Rattle.fields.specs.contracts.digit as the_fields_digit
use Rattle.fields.proofs.digit.Reads as fields_digit_reads
use Rattle.fields.specs.contracts.read_bits as the_fields_read_bits
use Rattle.fields.proofs.read_bits.Reads as fields_read_bits_reads
use Rattle.fields.specs.contracts.read_numeral as the_fields_read_numeral
use Rattle.fields.proofs.read_numeral.Reads as fields_read_numeral_reads
use Rattle.writing.specs.contracts.put_bytes as the_writing_put_bytes
use Rattle.writing.proofs.put_bytes.Reads as writing_put_bytes_reads
use Rattle.writing.specs.contracts.put_byte as the_writing_put_byte
use Rattle.writing.proofs.put_byte.Reads as writing_put_byte_reads
use Rattle.writing.specs.contracts.put_hex as the_writing_put_hex
use Rattle.writing.proofs.put_hex.Reads as writing_put_hex_reads
use Rattle.writing.specs.contracts.places as the_writing_places
use Rattle.writing.proofs.places.Reads as writing_places_reads
use Rattle.writing.specs.contracts.put_decimal as the_writing_put_decimal
use Rattle.writing.proofs.put_decimal.Reads as writing_put_decimal_reads
use Rattle.decimals.specs.contracts.read_decimal as the_decimals_read_decimal
use Rattle.decimals.proofs.read_decimal.Reads as decimals_read_decimal_reads
use Rattle.decimals.specs.contracts.read_cell as the_decimals_read_cell
use Rattle.decimals.proofs.read_cell.Reads as decimals_read_cell_reads
use Rattle.resample.specs.contracts.freq_step as the_resample_freq_step
use Rattle.resample.proofs.freq_step.Reads as resample_freq_step_reads
use Rattle.resample.specs.contracts.resample_prices as the_resample_resample_prices
use Rattle.resample.proofs.resample_prices.Reads as resample_resample_prices_reads
use Rattle.resample.specs.contracts.returns_from_prices as the_resample_returns_from_prices
use Rattle.resample.proofs.returns_from_prices.Reads as resample_returns_from_prices_reads
use Rattle.stats.specs.contracts.covariance as the_stats_covariance
use Rattle.stats.proofs.covariance.Reads as stats_covariance_reads
use Rattle.stats.specs.contracts.shrink_covariance as the_stats_shrink_covariance
use Rattle.stats.proofs.shrink_covariance.Reads as stats_shrink_covariance_reads
use Rattle.stats.specs.contracts.cov2corr as the_stats_cov2corr
use Rattle.stats.proofs.cov2corr.Reads as stats_cov2corr_reads
use Rattle.stats.specs.contracts.mean_expected_returns as the_stats_mean_expected_returns
use Rattle.stats.proofs.mean_expected_returns.Reads as stats_mean_expected_returns_reads
use Rattle.stats.specs.contracts.exponential_expected_returns as the_stats_exponential_expected_returns
use Rattle.stats.proofs.exponential_expected_returns.Reads as stats_exponential_expected_returns_reads
use Rattle.distances.specs.contracts.corr_to_distances as the_distances_corr_to_distances
use Rattle.distances.proofs.corr_to_distances.Reads as distances_corr_to_distances_reads
use Rattle.distances.specs.contracts.distance_of_distances as the_distances_distance_of_distances
use Rattle.distances.proofs.distance_of_distances.Reads as distances_distance_of_distances_reads
use Rattle.tree.specs.contracts.is_tree as the_tree_is_tree
use Rattle.tree.proofs.is_tree.Reads as tree_is_tree_reads
use Rattle.tree.specs.contracts.is_order as the_tree_is_order
use Rattle.tree.proofs.is_order.Reads as tree_is_order_reads
use Rattle.tree.specs.contracts.is_above as the_tree_is_above
use Rattle.tree.proofs.is_above.Reads as tree_is_above_reads
use Rattle.tree.specs.contracts.quasi_diagonalization as the_tree_quasi_diagonalization
use Rattle.tree.proofs.quasi_diagonalization.Reads as tree_quasi_diagonalization_reads
use Rattle.tree.specs.contracts.seriate_matrix as the_tree_seriate_matrix
use Rattle.tree.proofs.seriate_matrix.Reads as tree_seriate_matrix_reads
use Rattle.branches.specs.contracts.summarize as the_branches_summarize
use Rattle.branches.proofs.summarize.Reads as branches_summarize_reads
use Rattle.branches.specs.contracts.judge_members as the_branches_judge_members
use Rattle.branches.proofs.judge_members.Reads as branches_judge_members_reads
use Rattle.branches.specs.contracts.members as the_branches_members
use Rattle.branches.proofs.members.Reads as branches_members_reads
use Rattle.pairing.specs.contracts.is_far as the_pairing_is_far
use Rattle.pairing.proofs.is_far.Reads as pairing_is_far_reads
use Rattle.pairing.specs.contracts.paired as the_pairing_paired
use Rattle.pairing.proofs.paired.Reads as pairing_paired_reads
use Rattle.pairing.specs.contracts.offered as the_pairing_offered
use Rattle.pairing.proofs.offered.Reads as pairing_offered_reads
use Rattle.slots.specs.contracts.close_gap as the_slots_close_gap
use Rattle.slots.proofs.close_gap.Reads as slots_close_gap_reads
use Rattle.triangle.specs.contracts.shifts as the_triangle_shifts
use Rattle.triangle.proofs.shifts.Reads as triangle_shifts_reads
use Rattle.triangle.specs.contracts.above as the_triangle_above
use Rattle.triangle.proofs.above.Reads as triangle_above_reads
use Rattle.linkage.specs.contracts.distance_named as the_linkage_distance_named
use Rattle.linkage.proofs.distance_named.Reads as linkage_distance_named_reads
use Rattle.linkage.specs.contracts.linkage_named as the_linkage_linkage_named
use Rattle.linkage.proofs.linkage_named.Reads as linkage_linkage_named_reads
use Rattle.linkage.specs.contracts.Linkage.update as the_linkage_update
use Rattle.linkage.proofs.Linkage.update.Reads as linkage_update_reads
use Rattle.linkage.specs.contracts.linkage_children as the_linkage_linkage_children
use Rattle.linkage.proofs.linkage_children.Reads as linkage_linkage_children_reads
use Rattle.names.specs.contracts.is_name as the_names_is_name
use Rattle.names.proofs.is_name.Reads as names_is_name_reads
use Rattle.names.specs.contracts.name as the_names_name
use Rattle.names.proofs.name.Reads as names_name_reads
use Rattle.heading.specs.contracts.clusters_asked as the_heading_clusters_asked
use Rattle.heading.proofs.clusters_asked.Reads as heading_clusters_asked_reads
use Rattle.heading.specs.contracts.is_priced as the_heading_is_priced
use Rattle.heading.proofs.is_priced.Reads as heading_is_priced_reads
use Rattle.heading.specs.contracts.is_ceiled as the_heading_is_ceiled
use Rattle.heading.proofs.is_ceiled.Reads as heading_is_ceiled_reads
use Rattle.heading.specs.contracts.head as the_heading_head
use Rattle.heading.proofs.head.Reads as heading_head_reads
use Rattle.reading.specs.contracts.read_job as the_reading_read_job
use Rattle.reading.proofs.read_job.Reads as reading_read_job_reads
use Rattle.clusters.specs.contracts.inverse_variance_weights as the_clusters_inverse_variance_weights
use Rattle.clusters.proofs.inverse_variance_weights.Reads as clusters_inverse_variance_weights_reads
use Rattle.clusters.specs.contracts.cluster_variance as the_clusters_cluster_variance
use Rattle.clusters.proofs.cluster_variance.Reads as clusters_cluster_variance_reads
use Rattle.clusters.specs.contracts.cluster_sharpe as the_clusters_cluster_sharpe
use Rattle.clusters.proofs.cluster_sharpe.Reads as clusters_cluster_sharpe_reads
use Rattle.clusters.specs.contracts.any_outside as the_clusters_any_outside
use Rattle.clusters.proofs.any_outside.Reads as clusters_any_outside_reads
use Rattle.ordering.specs.contracts.sort as the_ordering_sort
use Rattle.ordering.proofs.sort.Reads as ordering_sort_reads
use Rattle.ordering.specs.contracts.is_no_part as the_ordering_is_no_part
use Rattle.ordering.proofs.is_no_part.Reads as ordering_is_no_part_reads
use Rattle.ordering.specs.contracts.quantile as the_ordering_quantile
use Rattle.ordering.proofs.quantile.Reads as ordering_quantile_reads
use Rattle.tails.specs.contracts.cluster_expected_shortfall as the_tails_cluster_expected_shortfall
use Rattle.tails.proofs.cluster_expected_shortfall.Reads as tails_cluster_expected_shortfall_reads
use Rattle.tails.specs.contracts.cluster_conditional_drawdown as the_tails_cluster_conditional_drawdown
use Rattle.tails.proofs.cluster_conditional_drawdown.Reads as tails_cluster_conditional_drawdown_reads
use Rattle.bisection.specs.contracts.recursive_bisection_min_var as the_bisection_recursive_bisection_min_var
use Rattle.bisection.proofs.recursive_bisection_min_var.Reads as bisection_recursive_bisection_min_var_reads
use Rattle.metrics.specs.contracts.metric_named as the_metrics_metric_named
use Rattle.metrics.proofs.metric_named.Reads as metrics_metric_named_reads
use Rattle.metrics.specs.contracts.is_sharpe as the_metrics_is_sharpe
use Rattle.metrics.proofs.is_sharpe.Reads as metrics_is_sharpe_reads
use Rattle.metrics.specs.contracts.is_tail_risk as the_metrics_is_tail_risk
use Rattle.metrics.proofs.is_tail_risk.Reads as metrics_is_tail_risk_reads
use Rattle.metrics.specs.contracts.split_factor as the_metrics_split_factor
use Rattle.metrics.proofs.split_factor.Reads as metrics_split_factor_reads
use Rattle.sharing.specs.contracts.allocate_down_tree as the_sharing_allocate_down_tree
use Rattle.sharing.proofs.allocate_down_tree.Reads as sharing_allocate_down_tree_reads
use Rattle.rooms.specs.contracts.clear_all as the_rooms_clear_all
use Rattle.rooms.proofs.clear_all.Reads as rooms_clear_all_reads
use Rattle.rooms.specs.contracts.clear_with_matrices as the_rooms_clear_with_matrices
use Rattle.rooms.proofs.clear_with_matrices.Reads as rooms_clear_with_matrices_reads
use Rattle.rooms.specs.contracts.judge_rooms as the_rooms_judge_rooms
use Rattle.rooms.proofs.judge_rooms.Reads as rooms_judge_rooms_reads
use Rattle.rooms.specs.contracts.judge_with_matrices as the_rooms_judge_with_matrices
use Rattle.rooms.proofs.judge_with_matrices.Reads as rooms_judge_with_matrices_reads
use Rattle.rooms.specs.contracts.judge_square as the_rooms_judge_square
use Rattle.rooms.proofs.judge_square.Reads as rooms_judge_square_reads
use Rattle.rooms.specs.contracts.judge_covariance as the_rooms_judge_covariance
use Rattle.rooms.proofs.judge_covariance.Reads as rooms_judge_covariance_reads
use Rattle.rooms.specs.contracts.judge as the_rooms_judge
use Rattle.rooms.proofs.judge.Reads as rooms_judge_reads
use Rattle.arranging.specs.contracts.arrange as the_arranging_arrange
use Rattle.arranging.proofs.arrange.Reads as arranging_arrange_reads
use Rattle.parity.specs.contracts.allocate_covariance as the_parity_allocate_covariance
use Rattle.parity.proofs.allocate_covariance.Reads as parity_allocate_covariance_reads
use Rattle.admission.specs.contracts.judge as the_admission_judge
use Rattle.admission.proofs.judge.Reads as admission_judge_reads
use Rattle.hierarchy.specs.contracts.allocate_covariance as the_hierarchy_allocate_covariance
use Rattle.hierarchy.proofs.allocate_covariance.Reads as hierarchy_allocate_covariance_reads
use Rattle.inputs.specs.contracts.is_absent as the_inputs_is_absent
use Rattle.inputs.proofs.is_absent.Reads as inputs_is_absent_reads
use Rattle.inputs.specs.contracts.rows_in as the_inputs_rows_in
use Rattle.inputs.proofs.rows_in.Reads as inputs_rows_in_reads
use Rattle.inputs.specs.contracts.has_other_columns as the_inputs_has_other_columns
use Rattle.inputs.proofs.has_other_columns.Reads as inputs_has_other_columns_reads
use Rattle.inputs.specs.contracts.has_other_size as the_inputs_has_other_size
use Rattle.inputs.proofs.has_other_size.Reads as inputs_has_other_size_reads
use Rattle.inputs.specs.contracts.judge_matrices as the_inputs_judge_matrices
use Rattle.inputs.proofs.judge_matrices.Reads as inputs_judge_matrices_reads
use Rattle.inputs.specs.contracts.sampled_returns as the_inputs_sampled_returns
use Rattle.inputs.proofs.sampled_returns.Reads as inputs_sampled_returns_reads
use Rattle.hrp.specs.contracts.allocate as the_hrp_allocate
use Rattle.hrp.proofs.allocate.Reads as hrp_allocate_reads
use Rattle.hcaa.specs.contracts.allocate as the_hcaa_allocate
use Rattle.hcaa.proofs.allocate.Reads as hcaa_allocate_reads
use Rattle.listing.specs.contracts.bytes as the_listing_bytes
use Rattle.listing.proofs.bytes.Reads as listing_bytes_reads
use Rattle.listing.specs.contracts.sheet as the_listing_sheet
use Rattle.listing.proofs.sheet.Reads as listing_sheet_reads
use Rattle.listing.specs.contracts.all_short as the_listing_all_short
use Rattle.listing.proofs.all_short.Reads as listing_all_short_reads
use Rattle.listing.specs.contracts.refusal_line as the_listing_refusal_line
use Rattle.listing.proofs.refusal_line.Reads as listing_refusal_line_reads
use Rattle.groups.specs.contracts.least_sheet as the_groups_least_sheet
use Rattle.groups.proofs.least_sheet.Reads as groups_least_sheet_reads
use Rattle.groups.specs.contracts.group_sheet as the_groups_group_sheet
use Rattle.groups.proofs.group_sheet.Reads as groups_group_sheet_reads
use Rattle.job.specs.contracts.text_to_listing as the_job_text_to_listing
use Rattle.job.proofs.text_to_listing.Reads as job_text_to_listing_reads
use Rattle.job.specs.contracts.text_to_sheet as the_job_text_to_sheet
use Rattle.job.proofs.text_to_sheet.Reads as job_text_to_sheet_reads
use Rattle.fractions.specs.contracts.rank_fractions as the_fractions_rank_fractions
use Rattle.fractions.proofs.rank_fractions.Reads as fractions_rank_fractions_reads
use Rattle.millionths.specs.contracts.weights_in_millionths as the_millionths_weights_in_millionths
use Rattle.millionths.proofs.weights_in_millionths.Reads as millionths_weights_in_millionths_reads
use Rattle.ceilings.specs.contracts.are_unlike as the_ceilings_are_unlike
use Rattle.ceilings.proofs.are_unlike.Reads as ceilings_are_unlike_reads
use Rattle.ceilings.specs.contracts.under_ceilings as the_ceilings_under_ceilings
use Rattle.ceilings.proofs.under_ceilings.Reads as ceilings_under_ceilings_reads
use Rattle.ceilings.specs.contracts.figures as the_ceilings_figures
use Rattle.ceilings.proofs.figures.Reads as ceilings_figures_reads
use Rattle.ceilings.specs.contracts.read_ceiling as the_ceilings_read_ceiling
use Rattle.ceilings.proofs.read_ceiling.Reads as ceilings_read_ceiling_reads
use Rattle.keys.specs.contracts.key_of as the_keys_key_of
use Rattle.keys.proofs.key_of.Reads as keys_key_of_reads
use Rattle.keys.specs.contracts.is_before as the_keys_is_before
use Rattle.keys.proofs.is_before.Reads as keys_is_before_reads
use Rattle.keys.specs.contracts.is_same as the_keys_is_same
use Rattle.keys.proofs.is_same.Reads as keys_is_same_reads
use Rattle.keys.specs.contracts.put_key as the_keys_put_key
use Rattle.keys.proofs.put_key.Reads as keys_put_key_reads
use Rattle.ledger.specs.contracts.enter as the_ledger_enter
use Rattle.ledger.proofs.enter.Reads as ledger_enter_reads
use Rattle.ledger.specs.contracts.judge_table as the_ledger_judge_table
use Rattle.ledger.proofs.judge_table.Reads as ledger_judge_table_reads
use Rattle.ledger.specs.contracts.position_in as the_ledger_position_in
use Rattle.ledger.proofs.position_in.Reads as ledger_position_in_reads
use Rattle.ledger.specs.contracts.clear_past as the_ledger_clear_past
use Rattle.ledger.proofs.clear_past.Reads as ledger_clear_past_reads
use Rattle.slips.specs.contracts.read_slip as the_slips_read_slip
use Rattle.slips.proofs.read_slip.Reads as slips_read_slip_reads
use Rattle.month.specs.contracts.begin_report as the_month_begin_report
use Rattle.month.proofs.begin_report.Reads as month_begin_report_reads
use Rattle.month.specs.contracts.at_line as the_month_at_line
use Rattle.month.proofs.at_line.Reads as month_at_line_reads
use Rattle.month.specs.contracts.names_held as the_month_names_held
use Rattle.month.proofs.names_held.Reads as month_names_held_reads
use Rattle.month.specs.contracts.take_line as the_month_take_line
use Rattle.month.proofs.take_line.Reads as month_take_line_reads
use Rattle.cutting.specs.contracts.begin_feed as the_cutting_begin_feed
use Rattle.cutting.proofs.begin_feed.Reads as cutting_begin_feed_reads
use Rattle.cutting.specs.contracts.take_bytes as the_cutting_take_bytes
use Rattle.cutting.proofs.take_bytes.Reads as cutting_take_bytes_reads
use Rattle.cutting.specs.contracts.end_feed as the_cutting_end_feed
use Rattle.cutting.proofs.end_feed.Reads as cutting_end_feed_reads
use Rattle.pages.specs.contracts.end_report as the_pages_end_report
use Rattle.pages.proofs.end_report.Reads as pages_end_report_reads
use Rattle.pages.specs.contracts.fault_line as the_pages_fault_line
use Rattle.pages.proofs.fault_line.Reads as pages_fault_line_reads
use Rattle.pages.specs.contracts.text_to_page as the_pages_text_to_page
use Rattle.pages.proofs.text_to_page.Reads as pages_text_to_page_reads
use Rattle.foreign.specs.contracts.number as the_foreign_number
use Rattle.foreign.proofs.number.Reads as foreign_number_reads
use Rattle.foreign.specs.contracts.distance_said as the_foreign_distance_said
use Rattle.foreign.proofs.distance_said.Reads as foreign_distance_said_reads
use Rattle.foreign.specs.contracts.linkage_said as the_foreign_linkage_said
use Rattle.foreign.proofs.linkage_said.Reads as foreign_linkage_said_reads
use Rattle.foreign.specs.contracts.judge_hrp as the_foreign_judge_hrp
use Rattle.foreign.proofs.judge_hrp.Reads as foreign_judge_hrp_reads
use Rattle.foreign.specs.contracts.tell as the_foreign_tell
use Rattle.foreign.proofs.tell.Reads as foreign_tell_reads
use Rattle.foreign.specs.contracts.judge_hcaa as the_foreign_judge_hcaa
use Rattle.foreign.proofs.judge_hcaa.Reads as foreign_judge_hcaa_reads
use Rattle.foreign.specs.contracts.judge_merge as the_foreign_judge_merge
use Rattle.foreign.proofs.judge_merge.Reads as foreign_judge_merge_reads
use Rattle.foreign.specs.contracts.judge_leaves as the_foreign_judge_leaves
use Rattle.foreign.proofs.judge_leaves.Reads as foreign_judge_leaves_reads
use Rattle.foreign.specs.contracts.number_listed as the_foreign_number_listed
use Rattle.foreign.proofs.number_listed.Reads as foreign_number_listed_reads
use Rattle.foreign.specs.contracts.judge_bytes as the_foreign_judge_bytes
use Rattle.foreign.proofs.judge_bytes.Reads as foreign_judge_bytes_reads
use Rattle.capi.specs.contracts.rovignesc_sqrt as the_capi_rovignesc_sqrt
use Rattle.capi.proofs.rovignesc_sqrt.Reads as capi_rovignesc_sqrt_reads
use Rattle.capi.specs.contracts.rovignesc_hrp as the_capi_rovignesc_hrp
use Rattle.capi.proofs.rovignesc_hrp.Reads as capi_rovignesc_hrp_reads
use Rattle.capi.specs.contracts.rovignesc_hcaa as the_capi_rovignesc_hcaa
use Rattle.capi.proofs.rovignesc_hcaa.Reads as capi_rovignesc_hcaa_reads
use Rattle.capi.specs.contracts.rovignesc_covariance as the_capi_rovignesc_covariance
use Rattle.capi.proofs.rovignesc_covariance.Reads as capi_rovignesc_covariance_reads
use Rattle.capi.specs.contracts.rovignesc_linkage_children as the_capi_rovignesc_linkage_children
use Rattle.capi.proofs.rovignesc_linkage_children.Reads as capi_rovignesc_linkage_children_reads
use Rattle.capi.specs.contracts.rovignesc_quasi_diagonalization as the_capi_rovignesc_quasi_diagonalization
use Rattle.capi.proofs.rovignesc_quasi_diagonalization.Reads as capi_rovignesc_quasi_diagonalization_reads
use Rattle.capi.specs.contracts.rovignesc_listing as the_capi_rovignesc_listing
use Rattle.capi.proofs.rovignesc_listing.Reads as capi_rovignesc_listing_reads
use Rattle.capi.specs.contracts.rovignesc_sheet as the_capi_rovignesc_sheet
use Rattle.capi.proofs.rovignesc_sheet.Reads as capi_rovignesc_sheet_reads
use Rattle.capi.specs.contracts.rovignesc_refusal_line as the_capi_rovignesc_refusal_line
use Rattle.capi.proofs.rovignesc_refusal_line.Reads as capi_rovignesc_refusal_line_reads
use Rattle.refusal.specs.Table.{Outcome}

-- ---- the law: what is the same as a third is the same

sole : {A : Type 0} {x a b : A} → a ≡ x → b ≡ x → a ≡ b
sole p q = p ∙ sym q

-- nothing is left in five parameters that are only read
kept5 : {E : Type 0} {e e' : E} → e ≡ e' → ◌≡◌ {A = Unit {0} × (Unit {0} × (Unit {0} × (Unit {0} × (Unit {0} × E))))} (tt, (tt, (tt, (tt, (tt, e))))) (tt, (tt, (tt, (tt, (tt, e')))))
kept5 p i = (tt, (tt, (tt, (tt, (tt, p i)))))

-- ---- the lent buffers of HCAA (rows, order, weights, scratch) and of HRP (rows, order, weights, correlations, distances, scratch), laid out or cleared

abbrev Four : Type 0
Four = List ℕ × (List ℕ × (List Float × (List Float × Unit {0})))

abbrev Six : Type 0
Six = List ℕ × (List ℕ × (List Float × (List Float × (List Float × (List Float × Unit {0})))))

four_laid : {o : Outcome} {u : hierarchy.Rule} {d : Distance} {l : Linkage} {cov : List Float} {n : ℕ} {room : hierarchy.Room} {rows order rows' order' : List ℕ} {w s w' s' : List Float}
    → hierarchy.HierarchyLaid o u d l cov n room rows order w s → hierarchy.HierarchyLaid o u d l cov n room rows' order' w' s'
    → ◌≡◌ {A = Four} (rows, (order, (w, (s, tt)))) (rows', (order', (w', (s', tt))))
four_laid p q i =
    let rows = sole p.rows_are q.rows_are in
    let order = sole p.order_is q.order_is in
    let weights = sole p.weights_are q.weights_are in
    let scratch = sole p.scratch_is q.scratch_is in
    (rows i, (order i, (weights i, (scratch i, tt))))

four_zeros : {room : hierarchy.Room} {rows order rows' order' : List ℕ} {w s w' s' : List Float}
    → hierarchy.Cleared room rows order w s → hierarchy.Cleared room rows' order' w' s'
    → ◌≡◌ {A = Four} (rows, (order, (w, (s, tt)))) (rows', (order', (w', (s', tt))))
four_zeros p q i =
    let rows = sole p.rows_are q.rows_are in
    let order = sole p.order_is q.order_is in
    let weights = sole p.weights_are q.weights_are in
    let scratch = sole p.scratch_is q.scratch_is in
    (rows i, (order i, (weights i, (scratch i, tt))))

six_laid : {o : Outcome} {d : Distance} {cov : List Float} {n : ℕ} {room : parity.ParityRoom} {rows order rows' order' : List ℕ} {w c t s w' c' t' s' : List Float}
    → parity.ParityLaid o d cov n room rows order w c t s → parity.ParityLaid o d cov n room rows' order' w' c' t' s'
    → ◌≡◌ {A = Six} (rows, (order, (w, (c, (t, (s, tt)))))) (rows', (order', (w', (c', (t', (s', tt))))))
six_laid p q i =
    let rows = sole p.rows_are q.rows_are in
    let order = sole p.order_is q.order_is in
    let weights = sole p.weights_are q.weights_are in
    let correlations = sole p.correlations_are q.correlations_are in
    let distances = sole p.distances_are q.distances_are in
    let scratch = sole p.scratch_is q.scratch_is in
    (rows i, (order i, (weights i, (correlations i, (distances i, (scratch i, tt))))))

six_zeros : {room : parity.ParityRoom} {rows order rows' order' : List ℕ} {w c t s w' c' t' s' : List Float}
    → parity.ParityCleared room rows order w c t s → parity.ParityCleared room rows' order' w' c' t' s'
    → ◌≡◌ {A = Six} (rows, (order, (w, (c, (t, (s, tt)))))) (rows', (order', (w', (c', (t', (s', tt))))))
six_zeros p q i =
    let rows = sole p.shared.rows_are q.shared.rows_are in
    let order = sole p.shared.order_is q.shared.order_is in
    let weights = sole p.shared.weights_are q.shared.weights_are in
    let correlations = sole p.correlations_are q.correlations_are in
    let distances = sole p.distances_are q.distances_are in
    let scratch = sole p.shared.scratch_is q.shared.scratch_is in
    (rows i, (order i, (weights i, (correlations i, (distances i, (scratch i, tt))))))

-- ---- arithmetic: document 01's arithmetic on doubles

pub arithmetic_max : Sole the_arithmetic_max.ended arithmetic_max_reads.Post
arithmetic_max κs a r r' e e' p q = (sole p q, refl)

pub arithmetic_min : Sole the_arithmetic_min.ended arithmetic_min_reads.Post
arithmetic_min κs a r r' e e' p q = (sole p q, refl)

pub arithmetic_clamp : Sole the_arithmetic_clamp.ended arithmetic_clamp_reads.Post
arithmetic_clamp κs a r r' e e' p q = (sole p q, refl)

pub arithmetic_abs : Sole the_arithmetic_abs.ended arithmetic_abs_reads.Post
arithmetic_abs κs a r r' e e' p q = (sole p q, refl)

pub arithmetic_is_finite : Sole the_arithmetic_is_finite.ended arithmetic_is_finite_reads.Post
arithmetic_is_finite κs a r r' e e' p q = (sole p q, refl)

pub arithmetic_count : Sole the_arithmetic_count.ended arithmetic_count_reads.Post
arithmetic_count κs a r r' e e' p q = (sole p q, refl)

pub arithmetic_from_bits : Sole the_arithmetic_from_bits.ended arithmetic_from_bits_reads.Post
arithmetic_from_bits κs a r r' e e' p q = (sole p q, refl)

pub arithmetic_to_bits : Sole the_arithmetic_to_bits.ended arithmetic_to_bits_reads.Post
arithmetic_to_bits κs a r r' e e' p q = (sole p q, refl)

pub arithmetic_settled : Sole the_arithmetic_settled.ended arithmetic_settled_reads.Post
arithmetic_settled κs a r r' e e' p q = (sole p q, refl)

pub arithmetic_one_over : Sole the_arithmetic_one_over.ended arithmetic_one_over_reads.Post
arithmetic_one_over κs a r r' e e' p q = (sole p q, refl)

pub arithmetic_sqrt : Sole the_arithmetic_sqrt.ended arithmetic_sqrt_reads.Post
arithmetic_sqrt κs a r r' e e' p q = (sole p q, refl)

-- ---- refusal: refusals, their numbers and tables

pub refusal_number : Sole the_refusal_number.ended refusal_number_reads.Post
refusal_number κs a r r' e e' p q = (sole p q, refl)

pub refusal_requested : Sole the_refusal_requested.ended refusal_requested_reads.Post
refusal_requested κs a r r' e e' p q = (sole p q, refl)

pub refusal_assets : Sole the_refusal_assets.ended refusal_assets_reads.Post
refusal_assets κs a r r' e e' p q = (sole p q, refl)

pub refusal_refuse : Sole the_refusal_refuse.ended refusal_refuse_reads.Post
refusal_refuse κs a r r' e e' p q = (sole p q, refl)

pub refusal_and_then : Sole the_refusal_and_then.ended refusal_and_then_reads.Post
refusal_and_then κs a r r' e e' p q = (sole p q, refl)

pub refusal_both : Sole the_refusal_both.ended refusal_both_reads.Post
refusal_both κs a r r' e e' p q = (sole p q, refl)

pub refusal_either : Sole the_refusal_either.ended refusal_either_reads.Post
refusal_either κs a r r' e e' p q = (sole p q, refl)

-- ---- lent: lent buffers and sizes

-- of entries of any type that has a zero: of doubles, numbers and bytes
pub lent_clear : (T : RattleType) (l : Laws T) (i : IsCopy T) (z : Zeros T.Denot) (d : Dict) (c : Clones T.Denot) (k : Dict)
    → Sole (the_lent_clear.ended T z d c k) (lent_clear_reads.Post T l i z d c k)
lent_clear T l i z d c k κs a r r' e e' p q = (refl, λ j. (sole p q j, tt))

pub lent_clear_from : (T : RattleType) (l : Laws T) (i : IsCopy T) (z : Zeros T.Denot) (d : Dict) (c : Clones T.Denot) (k : Dict)
    → Sole (the_lent_clear_from.ended T z d c k) (lent_clear_from_reads.Post T l i z d c k)
lent_clear_from T l i z d c k κs a r r' e e' p q = (refl, λ j. (sole p q j, (tt, tt)))

pub lent_copy : Sole the_lent_copy.ended lent_copy_reads.Post
lent_copy κs a r r' e e' p q = (refl, λ i. (tt, (sole p q i, tt)))

pub lent_over_limit : Sole the_lent_over_limit.ended lent_over_limit_reads.Post
lent_over_limit κs a r r' e e' p q = (sole p q, refl)

pub lent_has_other_length : Sole the_lent_has_other_length.ended lent_has_other_length_reads.Post
lent_has_other_length κs a r r' e e' p q = (sole p q, refl)

pub lent_shape_if : Sole the_lent_shape_if.ended lent_shape_if_reads.Post
lent_shape_if κs a r r' e e' p q = (sole p q, refl)

pub lent_too_big : Sole the_lent_too_big.ended lent_too_big_reads.Post
lent_too_big κs a r r' e e' p q = (sole p q, refl)

pub lent_is_misfit : Sole the_lent_is_misfit.ended lent_is_misfit_reads.Post
lent_is_misfit κs a r r' e e' p q = (sole p q, refl)

pub lent_sized : Sole the_lent_sized.ended lent_sized_reads.Post
lent_sized κs a r r' e e' p q = (sole p q, refl)

pub lent_squared : Sole the_lent_squared.ended lent_squared_reads.Post
lent_squared κs a r r' e e' p q = (sole p q, refl)

pub lent_answered : Sole the_lent_answered.ended lent_answered_reads.Post
lent_answered κs a r r' e e' p q = (sole p q, refl)

pub lent_told : Sole the_lent_told.ended lent_told_reads.Post
lent_told κs a r r' e e' p q = (sole p q, refl)

pub lent_lacks_rows : Sole the_lent_lacks_rows.ended lent_lacks_rows_reads.Post
lent_lacks_rows κs a r r' e e' p q = (sole p q, refl)

pub lent_lacks_cells : Sole the_lent_lacks_cells.ended lent_lacks_cells_reads.Post
lent_lacks_cells κs a r r' e e' p q = (sole p q, refl)

-- ---- text: bytes and names

pub text_same : Sole the_text_same.ended text_same_reads.Post
text_same κs a r r' e e' p q = (sole p q, refl)

pub text_is_word : Sole the_text_is_word.ended text_is_word_reads.Post
text_is_word κs a r r' e e' p q = (sole p q, refl)

-- ---- fields: pieces of a text, and numerals; of a piece, its bytes

pub fields_end_of : Sole the_fields_end_of.ended fields_end_of_reads.Post
fields_end_of κs a r r' e e' p q = (sole p q, refl)

pub fields_count : Sole the_fields_count.ended fields_count_reads.Post
fields_count κs a r r' e e' p q = (sole p q, refl)

pub fields_piece : SoleOf the_fields_piece.ended fields_piece_reads.Post (λ κs r. r.now)
fields_piece κs a r r' e e' p q = (sole p q, refl)

pub fields_last_piece : SoleOf the_fields_last_piece.ended fields_last_piece_reads.Post (λ κs r. r.now)
fields_last_piece κs a r r' e e' p q = (sole p q, refl)

pub fields_digit : Sole the_fields_digit.ended fields_digit_reads.Post
fields_digit κs a r r' e e' p q = (sole p q, refl)

pub fields_read_bits : Sole the_fields_read_bits.ended fields_read_bits_reads.Post
fields_read_bits κs a r r' e e' p q = (sole p q, refl)

pub fields_read_numeral : Sole the_fields_read_numeral.ended fields_read_numeral_reads.Post
fields_read_numeral κs a r r' e e' p q = (sole p q, refl)

-- ---- writing: bytes and numerals into a lent buffer

pub writing_put_bytes : Sole the_writing_put_bytes.ended writing_put_bytes_reads.Post
writing_put_bytes κs a r r' e e' p q = (sole p.moved q.moved, λ i. (sole p.bytes q.bytes i, (tt, (tt, tt))))

pub writing_put_byte : Sole the_writing_put_byte.ended writing_put_byte_reads.Post
writing_put_byte κs a r r' e e' p q = (sole p.moved q.moved, λ i. (sole p.bytes q.bytes i, (tt, (tt, tt))))

pub writing_put_hex : Sole the_writing_put_hex.ended writing_put_hex_reads.Post
writing_put_hex κs a r r' e e' p q = (sole p.moved q.moved, λ i. (sole p.bytes q.bytes i, (tt, (tt, tt))))

pub writing_places : Sole the_writing_places.ended writing_places_reads.Post
writing_places κs a r r' e e' p q = (sole p q, refl)

pub writing_put_decimal : Sole the_writing_put_decimal.ended writing_put_decimal_reads.Post
writing_put_decimal κs a r r' e e' p q = (sole p.moved q.moved, λ i. (sole p.bytes q.bytes i, (tt, (tt, tt))))

-- ---- decimals: cells, as decimals or as bits

pub decimals_read_decimal : Sole the_decimals_read_decimal.ended decimals_read_decimal_reads.Post
decimals_read_decimal κs a r r' e e' p q = (sole p q, refl)

pub decimals_read_cell : Sole the_decimals_read_cell.ended decimals_read_cell_reads.Post
decimals_read_cell κs a r r' e e' p q = (sole p q, refl)

-- ---- resample: sampling and returns

pub resample_freq_step : Sole the_resample_freq_step.ended resample_freq_step_reads.Post
resample_freq_step κs a r r' e e' p q = (sole p q, refl)

pub resample_resample_prices : Sole the_resample_resample_prices.ended resample_resample_prices_reads.Post
resample_resample_prices κs a r r' e e' p q = (sole p.0 q.0, λ i. (tt, (tt, (tt, (tt, (sole p.1 q.1 i, tt))))))

pub resample_returns_from_prices : Sole the_resample_returns_from_prices.ended resample_returns_from_prices_reads.Post
resample_returns_from_prices κs a r r' e e' p q = (sole p.0 q.0, λ i. (tt, (tt, (tt, (sole p.1 q.1 i, tt)))))

-- ---- stats: covariance, correlation, expected returns

pub stats_covariance : Sole the_stats_covariance.ended stats_covariance_reads.Post
stats_covariance κs a r r' e e' p q = (sole p.0 q.0, λ i. (tt, (tt, (tt, (sole p.1 q.1 i, tt)))))

pub stats_shrink_covariance : Sole the_stats_shrink_covariance.ended stats_shrink_covariance_reads.Post
stats_shrink_covariance κs a r r' e e' p q = (sole p.0 q.0, λ i. (tt, (tt, (tt, (sole p.1 q.1 i, tt)))))

pub stats_cov2corr : Sole the_stats_cov2corr.ended stats_cov2corr_reads.Post
stats_cov2corr κs a r r' e e' p q = (sole p.0 q.0, λ i. (tt, (tt, (tt, (sole p.1 q.1 i, tt)))))

pub stats_mean_expected_returns : Sole the_stats_mean_expected_returns.ended stats_mean_expected_returns_reads.Post
stats_mean_expected_returns κs a r r' e e' p q = (sole p.0 q.0, λ i. (tt, (tt, (tt, (sole p.1 q.1 i, tt)))))

pub stats_exponential_expected_returns : Sole the_stats_exponential_expected_returns.ended stats_exponential_expected_returns_reads.Post
stats_exponential_expected_returns κs a r r' e e' p q = (sole p.0 q.0, λ i. (tt, (tt, (tt, (sole p.1 q.1 i, tt)))))

-- ---- distances: distances, and distances of distances

pub distances_corr_to_distances : Sole the_distances_corr_to_distances.ended distances_corr_to_distances_reads.Post
distances_corr_to_distances κs a r r' e e' p q = (sole p.0 q.0, λ i. (tt, (tt, (tt, (tt, (sole p.1 q.1 i, tt))))))

pub distances_distance_of_distances : Sole the_distances_distance_of_distances.ended distances_distance_of_distances_reads.Post
distances_distance_of_distances κs a r r' e e' p q = (sole p.0 q.0, λ i. (tt, (tt, (tt, (sole p.1 q.1 i, tt)))))

-- ---- tree: merge rows as a tree, leaf order, seriated matrices

pub tree_is_tree : Sole the_tree_is_tree.ended tree_is_tree_reads.Post
tree_is_tree κs a r r' e e' p q = (sole p q, refl)

pub tree_is_order : Sole the_tree_is_order.ended tree_is_order_reads.Post
tree_is_order κs a r r' e e' p q = (sole p q, refl)

pub tree_is_above : Sole the_tree_is_above.ended tree_is_above_reads.Post
tree_is_above κs a r r' e e' p q = (sole p q, refl)

pub tree_quasi_diagonalization : Sole the_tree_quasi_diagonalization.ended tree_quasi_diagonalization_reads.Post
tree_quasi_diagonalization κs a r r' e e' p q = (sole p.0 q.0, λ i. (tt, (tt, (tt, (sole p.1 q.1 i, tt)))))

pub tree_seriate_matrix : Sole the_tree_seriate_matrix.ended tree_seriate_matrix_reads.Post
tree_seriate_matrix κs a r r' e e' p q = (sole p.0 q.0, λ i. (tt, (tt, (tt, (tt, (sole p.1 q.1 i, tt))))))

-- ---- branches: the summary of a tree, and a node's members; of a part, its entries

pub branches_summarize : Sole the_branches_summarize.ended branches_summarize_reads.Post
branches_summarize κs a r r' e e' p q = (
  sole p.0 q.0,
  λ i. (
    tt,
    (
      tt,
      (
        sole (rw p.0 at p.1.0) (rw q.0 at q.1.0) i,
        (sole (rw p.0 at p.1.1.0) (rw q.0 at q.1.1.0) i, (sole (rw p.0 at p.1.1.1) (rw q.0 at q.1.1.1) i, tt)),
      ),
    ),
  ),
)

pub branches_judge_members : Sole the_branches_judge_members.ended branches_judge_members_reads.Post
branches_judge_members κs a r r' e e' p q = (sole p q, refl)

pub branches_members : SoleOf the_branches_members.ended branches_members_reads.Post (λ κs r. r.now)
branches_members κs a r r' e e' p q = (sole p q, refl)

-- ---- pairing: the best pair of a scan

pub pairing_is_far : Sole the_pairing_is_far.ended pairing_is_far_reads.Post
pairing_is_far κs a r r' e e' p q = (sole p.0 q.0, refl)

pub pairing_paired : Sole the_pairing_paired.ended pairing_paired_reads.Post
pairing_paired κs a r r' e e' p q = (sole p q, refl)

pub pairing_offered : Sole the_pairing_offered.ended pairing_offered_reads.Post
pairing_offered κs a r r' e e' p q = (sole p q, refl)

-- ---- slots: the live slots, packed

pub slots_close_gap : Sole the_slots_close_gap.ended slots_close_gap_reads.Post
slots_close_gap κs a r r' e e' p q = (refl, λ i. (sole p q i, (tt, (tt, tt))))

-- ---- triangle: where a distance stands

pub triangle_shifts : Sole the_triangle_shifts.ended triangle_shifts_reads.Post
triangle_shifts κs a r r' e e' p q = (refl, λ i. (tt, (tt, (sole p q i, tt))))

pub triangle_above : Sole the_triangle_above.ended triangle_above_reads.Post
triangle_above κs a r r' e e' p q = (sole p.0 q.0, λ i. (tt, (tt, (sole p.1 q.1 i, tt))))

-- ---- linkage: names, and merge rows

pub linkage_distance_named : Sole the_linkage_distance_named.ended linkage_distance_named_reads.Post
linkage_distance_named κs a r r' e e' p q = (sole p q, refl)

pub linkage_linkage_named : Sole the_linkage_linkage_named.ended linkage_linkage_named_reads.Post
linkage_linkage_named κs a r r' e e' p q = (sole p q, refl)

pub linkage_update : Sole the_linkage_update.ended linkage_update_reads.Post
linkage_update κs a r r' e e' p q = (sole p q, refl)

pub linkage_linkage_children : Sole the_linkage_linkage_children.ended linkage_linkage_children_reads.Post
linkage_linkage_children κs a r r' e e' p q = (sole p.0 q.0, λ i. (tt, (tt, (tt, (tt, (sole p.1 q.1 i, tt))))))

-- ---- names: of a name, its bytes

pub names_is_name : Sole the_names_is_name.ended names_is_name_reads.Post
names_is_name κs a r r' e e' p q = (sole p q, refl)

pub names_name : SoleOf the_names_name.ended names_name_reads.Post (λ κs r. r.now)
names_name κs a r r' e e' p q = (sole p q, refl)

-- ---- heading: the first line of a job text

pub heading_clusters_asked : Sole the_heading_clusters_asked.ended heading_clusters_asked_reads.Post
heading_clusters_asked κs a r r' e e' p q = (sole p q, refl)

pub heading_is_priced : Sole the_heading_is_priced.ended heading_is_priced_reads.Post
heading_is_priced κs a r r' e e' p q = (sole p q, refl)

pub heading_is_ceiled : Sole the_heading_is_ceiled.ended heading_is_ceiled_reads.Post
heading_is_ceiled κs a r r' e e' p q = (sole p q, refl)

pub heading_head : Sole the_heading_head.ended heading_head_reads.Post
heading_head κs a r r' e e' p q = (sole p q, refl)

-- ---- reading: a job text read

pub reading_read_job : Sole the_reading_read_job.ended reading_read_job_reads.Post
reading_read_job κs a r r' e e' p q =
    (sole p.answer q.answer, λ i. (tt, (sole p.cells_are q.cells_are i, (sole p.starts_are q.starts_are i, (sole p.ceilings_are q.ceilings_are i, tt)))))

-- ---- clusters: risk of a list of assets

pub clusters_inverse_variance_weights : Sole the_clusters_inverse_variance_weights.ended clusters_inverse_variance_weights_reads.Post
clusters_inverse_variance_weights κs a r r' e e' p q = (sole p.0 q.0, λ i. (tt, (tt, (tt, (tt, (sole p.1 q.1 i, tt))))))

pub clusters_cluster_variance : Sole the_clusters_cluster_variance.ended clusters_cluster_variance_reads.Post
clusters_cluster_variance κs a r r' e e' p q = (sole p q, refl)

pub clusters_cluster_sharpe : Sole the_clusters_cluster_sharpe.ended clusters_cluster_sharpe_reads.Post
clusters_cluster_sharpe κs a r r' e e' p q = (sole p q, refl)

pub clusters_any_outside : Sole the_clusters_any_outside.ended clusters_any_outside_reads.Post
clusters_any_outside κs a r r' e e' p q = (sole p q, refl)

-- ---- ordering: a list put in order, and its entry at a part

pub ordering_sort : Sole the_ordering_sort.ended ordering_sort_reads.Post
ordering_sort κs a r r' e e' p q = (sole p.0 q.0, λ i. (sole p.1 q.1 i, tt))

pub ordering_is_no_part : Sole the_ordering_is_no_part.ended ordering_is_no_part_reads.Post
ordering_is_no_part κs a r r' e e' p q = (sole p q, refl)

pub ordering_quantile : Sole the_ordering_quantile.ended ordering_quantile_reads.Post
ordering_quantile κs a r r' e e' p q = (sole p.0 q.0, λ i. (sole p.1 q.1 i, (tt, tt)))

-- ---- tails: the tail risk of a list of assets

pub tails_cluster_expected_shortfall : Sole the_tails_cluster_expected_shortfall.ended tails_cluster_expected_shortfall_reads.Post
tails_cluster_expected_shortfall κs a r r' e e' p q = (sole p.0 q.0, kept5 (λ i. (tt, (tt, (tt, (sole p.1 q.1 i, tt))))))

pub tails_cluster_conditional_drawdown : Sole the_tails_cluster_conditional_drawdown.ended tails_cluster_conditional_drawdown_reads.Post
tails_cluster_conditional_drawdown κs a r r' e e' p q = (sole p.0 q.0, kept5 (λ i. (tt, (tt, (tt, (sole p.1 q.1 i, tt))))))

-- ---- bisection: HRP's halving of a given order

pub bisection_recursive_bisection_min_var : Sole the_bisection_recursive_bisection_min_var.ended bisection_recursive_bisection_min_var_reads.Post
bisection_recursive_bisection_min_var κs a r r' e e' p q = (sole p.0 q.0, λ i. (tt, (tt, (tt, (tt, (sole p.1 q.1 i, tt))))))

-- ---- metrics: their names, and the factor of a split

pub metrics_metric_named : Sole the_metrics_metric_named.ended metrics_metric_named_reads.Post
metrics_metric_named κs a r r' e e' p q = (sole p q, refl)

pub metrics_is_sharpe : Sole the_metrics_is_sharpe.ended metrics_is_sharpe_reads.Post
metrics_is_sharpe κs a r r' e e' p q = (sole p q, refl)

pub metrics_is_tail_risk : Sole the_metrics_is_tail_risk.ended metrics_is_tail_risk_reads.Post
metrics_is_tail_risk κs a r r' e e' p q = (sole p q, refl)

pub metrics_split_factor : Sole the_metrics_split_factor.ended metrics_split_factor_reads.Post
metrics_split_factor κs a r r' e e' p q = (sole p.0 q.0, kept5 (λ i. (tt, (tt, (tt, (tt, (sole p.1 q.1 i, tt)))))))

-- ---- sharing: sharing down given merge rows

pub sharing_allocate_down_tree : Sole the_sharing_allocate_down_tree.ended sharing_allocate_down_tree_reads.Post
sharing_allocate_down_tree κs a r r' e e' p q = (sole p.0 q.0, kept5 (kept5 (λ i. (tt, (tt, (tt, (sole p.1.0 q.1.0 i, (sole p.1.1 q.1.1 i, tt))))))))

-- ---- parity: HRP on a covariance

pub rooms_clear_all : Sole the_rooms_clear_all.ended rooms_clear_all_reads.Post
rooms_clear_all κs a r r' e e' p q = (refl, four_zeros p q)

pub rooms_clear_with_matrices : Sole the_rooms_clear_with_matrices.ended rooms_clear_with_matrices_reads.Post
rooms_clear_with_matrices κs a r r' e e' p q = (refl, six_zeros p q)

pub rooms_judge_rooms : Sole the_rooms_judge_rooms.ended rooms_judge_rooms_reads.Post
rooms_judge_rooms κs a r r' e e' p q = (sole p q, refl)

pub rooms_judge_with_matrices : Sole the_rooms_judge_with_matrices.ended rooms_judge_with_matrices_reads.Post
rooms_judge_with_matrices κs a r r' e e' p q = (sole p q, refl)

pub rooms_judge_square : Sole the_rooms_judge_square.ended rooms_judge_square_reads.Post
rooms_judge_square κs a r r' e e' p q = (sole p q, refl)

pub rooms_judge_covariance : Sole the_rooms_judge_covariance.ended rooms_judge_covariance_reads.Post
rooms_judge_covariance κs a r r' e e' p q = (sole p q, refl)

pub rooms_judge : Sole the_rooms_judge.ended rooms_judge_reads.Post
rooms_judge κs a r r' e e' p q = (sole p q, refl)

pub arranging_arrange : Sole the_arranging_arrange.ended arranging_arrange_reads.Post
arranging_arrange κs a r r' e e' p q = (sole p.answer q.answer, λ i. (tt, (tt, (tt, (tt, (tt, (tt, (sole p.rows_are q.rows_are i, (sole p.order_is q.order_is i, (sole p.distances_are q.distances_are i, tt))))))))))

pub parity_allocate_covariance : Sole the_parity_allocate_covariance.ended parity_allocate_covariance_reads.Post
parity_allocate_covariance κs a r r' e e' p q = (sole p.answer q.answer, λ i. (tt, (tt, (tt, (tt, six_laid p.buffers q.buffers i)))))

-- ---- hierarchy: HCAA on a covariance

pub admission_judge : Sole the_admission_judge.ended admission_judge_reads.Post
admission_judge κs a r r' e e' p q = (sole p q, refl)

pub hierarchy_allocate_covariance : Sole the_hierarchy_allocate_covariance.ended hierarchy_allocate_covariance_reads.Post
hierarchy_allocate_covariance κs a r r' e e' p q = (sole p.answer q.answer, kept5 (kept5 (λ i. (tt, (tt, (tt, four_laid p.buffers q.buffers i))))))

-- ---- inputs: the matrices given to both allocators

pub inputs_is_absent : Sole the_inputs_is_absent.ended inputs_is_absent_reads.Post
inputs_is_absent κs a r r' e e' p q = (sole p q, refl)

pub inputs_rows_in : Sole the_inputs_rows_in.ended inputs_rows_in_reads.Post
inputs_rows_in κs a r r' e e' p q = (sole p q, refl)

pub inputs_has_other_columns : Sole the_inputs_has_other_columns.ended inputs_has_other_columns_reads.Post
inputs_has_other_columns κs a r r' e e' p q = (sole p q, refl)

pub inputs_has_other_size : Sole the_inputs_has_other_size.ended inputs_has_other_size_reads.Post
inputs_has_other_size κs a r r' e e' p q = (sole p q, refl)

pub inputs_judge_matrices : Sole the_inputs_judge_matrices.ended inputs_judge_matrices_reads.Post
inputs_judge_matrices κs a r r' e e' p q = (sole p q, refl)

pub inputs_sampled_returns : Sole the_inputs_sampled_returns.ended inputs_sampled_returns_reads.Post
inputs_sampled_returns κs a r r' e e' p q = (sole p.0 q.0, λ i. (tt, (tt, (tt, (tt, (sole p.1 q.1 i, tt))))))

-- ---- hrp: HRP

pub hrp_allocate : Sole the_hrp_allocate.ended hrp_allocate_reads.Post
hrp_allocate κs a r r' e e' p q = (sole p.answer q.answer, kept5 (kept5 (six_laid p.buffers q.buffers)))

-- ---- hcaa: HCAA

pub hcaa_allocate : Sole the_hcaa_allocate.ended hcaa_allocate_reads.Post
hcaa_allocate κs a r r' e e' p q = (sole p.answer q.answer, kept5 (kept5 (kept5 (λ i. (tt, four_laid p.buffers q.buffers i)))))

-- ---- fractions, millionths, ceilings: weights in millionths, under ceilings where these are given

pub fractions_rank_fractions : Sole the_fractions_rank_fractions.ended fractions_rank_fractions_reads.Post
fractions_rank_fractions κs a r r' e e' p q = (sole p.0 q.0, λ i. (tt, (sole p.1.0 q.1.0 i, (sole p.1.1 q.1.1 i, tt))))

pub millionths_weights_in_millionths : Sole the_millionths_weights_in_millionths.ended millionths_weights_in_millionths_reads.Post
millionths_weights_in_millionths κs a r r' e e' p q = (sole p.0 q.0, λ i. (tt, (sole p.1 q.1 i, tt)))

pub ceilings_are_unlike : Sole the_ceilings_are_unlike.ended ceilings_are_unlike_reads.Post
ceilings_are_unlike κs a r r' e e' p q = (sole p q, refl)

pub ceilings_under_ceilings : Sole the_ceilings_under_ceilings.ended ceilings_under_ceilings_reads.Post
ceilings_under_ceilings κs a r r' e e' p q = (sole p.0 q.0, λ i. (sole p.1 q.1 i, (tt, tt)))

pub ceilings_figures : Sole the_ceilings_figures.ended ceilings_figures_reads.Post
ceilings_figures κs a r r' e e' p q = (sole p.0 q.0, λ i. (tt, (tt, (sole p.1 q.1 i, tt))))

pub ceilings_read_ceiling : Sole the_ceilings_read_ceiling.ended ceilings_read_ceiling_reads.Post
ceilings_read_ceiling κs a r r' e e' p q = (sole p q, refl)

-- ---- listing: the listing of an answer, and the line of a refusal

pub listing_bytes : Sole the_listing_bytes.ended listing_bytes_reads.Post
listing_bytes κs a r r' e e' p q = (sole p q, refl)

pub listing_sheet : Sole the_listing_sheet.ended listing_sheet_reads.Post
listing_sheet κs a r r' e e' p q = (sole p.answer q.answer, kept5 (λ i. (sole p.bytes_are q.bytes_are i, tt)))

pub listing_refusal_line : Sole the_listing_refusal_line.ended listing_refusal_line_reads.Post
listing_refusal_line κs a r r' e e' p q = (sole p.answer q.answer, λ i. (tt, (sole p.bytes_are q.bytes_are i, tt)))

pub listing_all_short : Sole the_listing_all_short.ended listing_all_short_reads.Post
listing_all_short κs a r r' e e' p q = (sole p q, refl)

-- ---- groups: the sheet of a tree

pub groups_least_sheet : Sole the_groups_least_sheet.ended groups_least_sheet_reads.Post
groups_least_sheet κs a r r' e e' p q = (sole p q, refl)

pub groups_group_sheet : Sole the_groups_group_sheet.ended groups_group_sheet_reads.Post
groups_group_sheet κs a r r' e e' p q = (sole p.answer q.answer, kept5 (λ i. (tt, (sole p.bytes_are q.bytes_are i, tt))))

-- ---- keys, ledger, slips, month, cutting, pages: the month-end report

pub keys_key_of : Sole the_keys_key_of.ended keys_key_of_reads.Post
keys_key_of κs a r r' e e' p q = (sole p q, refl)

pub keys_is_before : Sole the_keys_is_before.ended keys_is_before_reads.Post
keys_is_before κs a r r' e e' p q = (sole p q, refl)

pub keys_is_same : Sole the_keys_is_same.ended keys_is_same_reads.Post
keys_is_same κs a r r' e e' p q = (sole p q, refl)

pub keys_put_key : Sole the_keys_put_key.ended keys_put_key_reads.Post
keys_put_key κs a r r' e e' p q = (sole p.moved q.moved, λ i. (sole p.bytes q.bytes i, (tt, (tt, tt))))

pub ledger_enter : Sole the_ledger_enter.ended ledger_enter_reads.Post
ledger_enter κs a r r' e e' p q = (sole p.answer q.answer, λ i. (sole p.table_is q.table_is i, (tt, (tt, tt))))

pub ledger_judge_table : Sole the_ledger_judge_table.ended ledger_judge_table_reads.Post
ledger_judge_table κs a r r' e e' p q = (sole p q, refl)

pub ledger_position_in : Sole the_ledger_position_in.ended ledger_position_in_reads.Post
ledger_position_in κs a r r' e e' p q = (sole p q, refl)

pub ledger_clear_past : Sole the_ledger_clear_past.ended ledger_clear_past_reads.Post
ledger_clear_past κs a r r' e e' p q = (refl, λ i. (sole p q i, (tt, tt)))

pub slips_read_slip : Sole the_slips_read_slip.ended slips_read_slip_reads.Post
slips_read_slip κs a r r' e e' p q = (sole p q, refl)

pub month_begin_report : Sole the_month_begin_report.ended month_begin_report_reads.Post
month_begin_report κs a r r' e e' p q = (sole p.answer q.answer, λ i. (sole p.table_is q.table_is i, tt))

pub month_take_line : Sole the_month_take_line.ended month_take_line_reads.Post
month_take_line κs a r r' e e' p q = (sole p.answer q.answer, λ i. (sole p.table_is q.table_is i, (tt, (tt, tt))))

pub month_at_line : (t : RattleType) (l : Laws t) (d : Dict) → Sole (the_month_at_line.ended t d) (month_at_line_reads.Post t l d)
month_at_line t l d κs (Ok x, b) r r' e e' p q = (sole p q, refl)
month_at_line t l d κs (Err x, b) r r' e e' p q = (sole p q, refl)

pub month_names_held : Sole the_month_names_held.ended month_names_held_reads.Post
month_names_held κs a r r' e e' p q = (sole p q, refl)

pub cutting_begin_feed : Sole the_cutting_begin_feed.ended cutting_begin_feed_reads.Post
cutting_begin_feed κs a r r' e e' p q = (sole p.answer q.answer, λ i. (sole p.table_is q.table_is i, (sole p.held_is q.held_is i, tt)))

pub cutting_take_bytes : Sole the_cutting_take_bytes.ended cutting_take_bytes_reads.Post
cutting_take_bytes κs a r r' e e' p q = (sole p.answer q.answer, λ i. (sole p.table_is q.table_is i, (sole p.held_is q.held_is i, (tt, (tt, tt)))))

pub cutting_end_feed : Sole the_cutting_end_feed.ended cutting_end_feed_reads.Post
cutting_end_feed κs a r r' e e' p q = (sole p.answer q.answer, λ i. (sole p.held_is q.held_is i, (tt, tt)))

pub pages_end_report : Sole the_pages_end_report.ended pages_end_report_reads.Post
pages_end_report κs a r r' e e' p q = (sole p.made.answer q.made.answer, λ i. (sole p.table_is q.table_is i, (tt, (sole p.made.bytes_are q.made.bytes_are i, tt))))

pub pages_fault_line : Sole the_pages_fault_line.ended pages_fault_line_reads.Post
pages_fault_line κs a r r' e e' p q = (sole p q, refl)

pub pages_text_to_page : Sole the_pages_text_to_page.ended pages_text_to_page_reads.Post
pages_text_to_page κs a r r' e e' p q = (
  sole p.made.answer q.made.answer,
  λ i. (tt, (sole p.table_is q.table_is i, (sole p.held_is q.held_is i, (sole p.made.bytes_are q.made.bytes_are i, tt)))),
)

-- ---- job: a text to its listing or its sheet

pub job_text_to_listing : Sole the_job_text_to_listing.ended job_text_to_listing_reads.Post
job_text_to_listing κs a r r' e e' p q = (sole p.made.answer q.made.answer, λ i. (tt, (sole p.made.bytes_are q.made.bytes_are i, tt)))

pub job_text_to_sheet : Sole the_job_text_to_sheet.ended job_text_to_sheet_reads.Post
job_text_to_sheet κs a r r' e e' p q = (sole p.made.answer q.made.answer, λ i. (tt, (tt, (sole p.made.bytes_are q.made.bytes_are i, tt))))

-- ---- foreign: what a call from C hands in

pub foreign_number : Sole the_foreign_number.ended foreign_number_reads.Post
foreign_number κs a r r' e e' p q = (sole p q, refl)

pub foreign_distance_said : Sole the_foreign_distance_said.ended foreign_distance_said_reads.Post
foreign_distance_said κs a r r' e e' p q = (sole p q, refl)

pub foreign_linkage_said : Sole the_foreign_linkage_said.ended foreign_linkage_said_reads.Post
foreign_linkage_said κs a r r' e e' p q = (sole p q, refl)

pub foreign_judge_hrp : Sole the_foreign_judge_hrp.ended foreign_judge_hrp_reads.Post
foreign_judge_hrp κs a r r' e e' p q = (sole p q, refl)

pub foreign_tell : Sole the_foreign_tell.ended foreign_tell_reads.Post
foreign_tell κs a r r' e e' p q = (sole p.0 q.0, λ i. (tt, (sole p.1 q.1 i, tt)))

pub foreign_judge_hcaa : Sole the_foreign_judge_hcaa.ended foreign_judge_hcaa_reads.Post
foreign_judge_hcaa κs a r r' e e' p q = (sole p q, refl)

pub foreign_judge_merge : Sole the_foreign_judge_merge.ended foreign_judge_merge_reads.Post
foreign_judge_merge κs a r r' e e' p q = (sole p q, refl)

pub foreign_judge_leaves : Sole the_foreign_judge_leaves.ended foreign_judge_leaves_reads.Post
foreign_judge_leaves κs a r r' e e' p q = (sole p q, refl)

pub foreign_number_listed : Sole the_foreign_number_listed.ended foreign_number_listed_reads.Post
foreign_number_listed κs a r r' e e' p q = (sole p q, refl)

pub foreign_judge_bytes : Sole the_foreign_judge_bytes.ended foreign_judge_bytes_reads.Post
foreign_judge_bytes κs a r r' e e' p q = (sole p q, refl)

-- ---- capi: the C interface

pub capi_rovignesc_sqrt : Sole the_capi_rovignesc_sqrt.ended capi_rovignesc_sqrt_reads.Post
capi_rovignesc_sqrt κs a r r' e e' p q = (sole p q, refl)

pub capi_rovignesc_hrp : Sole the_capi_rovignesc_hrp.ended capi_rovignesc_hrp_reads.Post
capi_rovignesc_hrp κs a r r' e e' p q = (sole p.answer q.answer, kept5 (kept5 (kept5 (λ i. (tt, six_laid p.buffers q.buffers i)))))

pub capi_rovignesc_hcaa : Sole the_capi_rovignesc_hcaa.ended capi_rovignesc_hcaa_reads.Post
capi_rovignesc_hcaa κs a r r' e e' p q =
    (sole p.answer q.answer, kept5 (kept5 (kept5 (kept5 (λ i. (tt, (tt, (tt, (sole p.buffers.rows_are q.buffers.rows_are i, (sole p.buffers.order_is q.buffers.order_is i, (sole p.buffers.weights_are q.buffers.weights_are i, (sole p.buffers.scratch_is q.buffers.scratch_is i, (sole p.asked_is q.asked_is i, tt)))))))))))))

pub capi_rovignesc_covariance : Sole the_capi_rovignesc_covariance.ended capi_rovignesc_covariance_reads.Post
capi_rovignesc_covariance κs a r r' e e' p q = (sole p.answer q.answer, λ i. (tt, (tt, (tt, (sole p.cells_are q.cells_are i, tt)))))

pub capi_rovignesc_linkage_children : Sole the_capi_rovignesc_linkage_children.ended capi_rovignesc_linkage_children_reads.Post
capi_rovignesc_linkage_children κs a r r' e e' p q = (sole p.answer q.answer, λ i. (tt, (tt, (tt, (tt, (sole p.rows_are q.rows_are i, (sole p.pairs_are q.pairs_are i, tt)))))))

pub capi_rovignesc_quasi_diagonalization : Sole the_capi_rovignesc_quasi_diagonalization.ended capi_rovignesc_quasi_diagonalization_reads.Post
capi_rovignesc_quasi_diagonalization κs a r r' e e' p q = (sole p.answer q.answer, λ i. (tt, (tt, (tt, (sole p.order_is q.order_is i, (sole p.leaves_are q.leaves_are i, tt))))))

pub capi_rovignesc_listing : Sole the_capi_rovignesc_listing.ended capi_rovignesc_listing_reads.Post
capi_rovignesc_listing κs a r r' e e' p q = (sole p.answer q.answer, λ i. (tt, (sole p.listing_is q.listing_is i, (sole p.bytes_are q.bytes_are i, tt))))

pub capi_rovignesc_sheet : Sole the_capi_rovignesc_sheet.ended capi_rovignesc_sheet_reads.Post
capi_rovignesc_sheet κs a r r' e e' p q = (sole p.answer q.answer, λ i. (tt, (tt, (sole p.sheet_is q.sheet_is i, (sole p.bytes_are q.bytes_are i, tt)))))

pub capi_rovignesc_refusal_line : Sole the_capi_rovignesc_refusal_line.ended capi_rovignesc_refusal_line_reads.Post
capi_rovignesc_refusal_line κs a r r' e e' p q = (sole p.answer q.answer, λ i. (tt, (sole p.line_is q.line_is i, (sole p.bytes_are q.bytes_are i, tt))))
