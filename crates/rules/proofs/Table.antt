-- The table of cases holds, by computing it.
use lib.Dec.{T}
use Rattle.graph.specs.Below.{table, gather, sum, some, every, first}
use Rattle.graph.specs.Spans.{grid, passing, spans_by, spans}
use Rattle.rules.specs.Job.{weights, job_row, job_rows, bad_weight, bad_state, checked}
use Rattle.rules.specs.Lent.{area_short}
use Rattle.rules.specs.Types.{is_same_row, firsts, sampled_at, sampled}
use Rattle.rules.specs.Distance.{distance}
use Rattle.rules.specs.Links.{links_at, join_all}
use Rattle.rules.specs.Purge.{purge_once, purge_times, purge}
use Rattle.rules.specs.Median.{median}
use Rattle.rules.specs.Round.{offers_of, offers, least_from, compare_rows, insert, ascending, added}
use Rattle.rules.specs.Run.{grown, phase_one_in, phase_one, phase_two}
use Rattle.rules.specs.Result.{words, block}
use Rattle.rules.specs.Call.{outcome, verdict}
use Rattle.rules.specs.Text.{text, digits, type_line, link_line, network_text, printed}
use Rattle.rules.specs.Cases.{job, holds, all_hold, cases}

-- Every case of the table holds.
pub table-holds : T (all_hold cases)
unfolding table gather sum some every first grid passing spans_by spans weights job_row job_rows bad_weight bad_state checked area_short is_same_row firsts sampled_at sampled distance links_at join_all purge_once purge_times purge median offers_of offers least_from compare_rows insert ascending added grown phase_one_in phase_one phase_two words block outcome verdict text digits type_line link_line network_text printed job holds all_hold cases
table-holds = tt
