-- The eleven cases of 01, computed from the definitions that the calls promise: of each row, the opening's 0 and its answers.
use mathlib.Core.Path.{refl}
use Rattle.units.specs.Logic.{both, all_of}
use Rattle.units.specs.Limits.{one_or_two, window_ok, load_ok, bundle_ok}
use Rattle.units.specs.Answer.{same_dates, offers}
use Rattle.units.specs.Strict.{strict_ok, forbids}
use Rattle.units.specs.Arrays.{padded}
use Rattle.segmentation.specs.Capacity.{rate_at, cap_of}
use Rattle.segmentation.specs.End.{reach_of as tick_of, close_of, end_of}
use Rattle.segmentation.specs.Delay.{belongs, from_date, delays_of}
use Rattle.contact.specs.Choices.{choices_ok}
use Rattle.contact.specs.Segments.{spans, covers, delays_ok, no_volume, no_delay}
use Rattle.contact.specs.Open.{total_of, volume_ok, open_contact}
use Rattle.contact.specs.Record.{contact_ok}
use Rattle.free_list.specs.Listed.{segment_ok, list_ok}
use Rattle.free_list.specs.Offer.{further_of, offer_of}
use Rattle.free_list.specs.Cut.{left_of, cut_of, list_cut}
use Rattle.free_list.specs.Room.{room_of}
use Rattle.seg.specs.Record.{free_ok, record_ok as free_record_ok}
use Rattle.seg.specs.Open.{open_of as open_free}
use Rattle.seg.specs.DryRun.{dry_run_of as dry_run_free}
use Rattle.seg.specs.Book.{book_of as book_free}
use Rattle.seg.specs.List.{list_of as list_free}
use Rattle.bookings.specs.Listed.{follows, cover_ok, no_booking}
use Rattle.bookings.specs.Search.{reach_of, begin_of, broken_of, free_of, turn_of, search_of}
use Rattle.bookings.specs.Cut.{parts_of, set_of, set_bookings}
use Rattle.pseg.specs.Record.{bookings_ok, record_ok as priority_record_ok}
use Rattle.pseg.specs.Open.{open_of as open_priority}
use Rattle.pseg.specs.DryRun.{dry_run_of as dry_run_priority}
use Rattle.pseg.specs.Book.{book_of as book_priority}
use Rattle.pseg.specs.List.{list_of as list_priority}
use Rattle.poly.specs.Integral.{integral12}
use Rattle.poly.specs.Poly.{step_of, horner_of, capacity_to, term_of, mag_of, range_ok, coefficients_ok, poly_ok}
use Rattle.poly.specs.Search.{wanted_of, area_from, halve_of, find_end}
use Rattle.poly_seg.specs.Choices.{choices_ok as polynomial_choices_ok}
use Rattle.poly_seg.specs.Open.{delay_ok, delays_ok as polynomial_delays_ok, delays_by, open_of as open_polynomial}
use Rattle.poly_seg.specs.Record.{record_ok as polynomial_record_ok}
use Rattle.poly_seg.specs.DryRun.{offer_of as offer_polynomial, dry_run_of as dry_run_polynomial}
use Rattle.poly_seg.specs.Book.{book_of as book_polynomial}
use Rattle.poly_seg.specs.List.{list_of as list_polynomial}
use Rattle.legacy.specs.Choices.{choices_ok as queue_choices_ok}
use Rattle.legacy.specs.Open.{rate_ok, budgets_ok, open_of as open_queue}
use Rattle.legacy.specs.Record.{record_ok as queue_record_ok}
use Rattle.legacy.specs.DryRun.{answer_at, dry_run_of as dry_run_queue}
use Rattle.legacy.specs.Queueing.{add_to, enqueue_at}
use Rattle.legacy.specs.Book.{book_of as book_queue}
use Rattle.legacy.specs.List.{list_of as list_queue}
use Rattle.held.specs.State.{kept}
use Rattle.held.specs.Calls.{dry_run_held, book_held}
use Rattle.cases.specs.Table.{table}
use Rattle.cases.specs.Claim.{opening_of, list_of, answer_of, next_of, answers_of, said_of, Holds}

pub cases : Holds table
unfolding room_of both all_of one_or_two strict_ok forbids window_ok load_ok bundle_ok same_dates offers padded rate_at cap_of tick_of close_of end_of belongs from_date delays_of spans covers delays_ok no_volume no_delay total_of volume_ok choices_ok open_contact contact_ok segment_ok list_ok further_of offer_of left_of cut_of list_cut free_ok free_record_ok open_free dry_run_free book_free list_free follows cover_ok no_booking reach_of begin_of broken_of free_of turn_of search_of parts_of set_of set_bookings bookings_ok priority_record_ok open_priority dry_run_priority book_priority list_priority integral12 step_of horner_of capacity_to term_of mag_of range_ok coefficients_ok poly_ok wanted_of area_from halve_of find_end polynomial_choices_ok queue_choices_ok delay_ok polynomial_delays_ok delays_by open_polynomial polynomial_record_ok offer_polynomial dry_run_polynomial book_polynomial list_polynomial rate_ok budgets_ok open_queue queue_record_ok answer_at dry_run_queue add_to enqueue_at book_queue list_queue kept dry_run_held book_held opening_of list_of answer_of next_of answers_of said_of Holds
cases = (refl, refl, (refl, refl, (refl, refl, (refl, refl, (refl, refl, (refl, refl, (refl, refl, (refl, refl, (refl, refl, (refl, refl, (refl, refl, (refl, refl, (refl, refl, (refl, refl, (refl, refl, (refl, refl, (refl, refl, (refl, refl, (refl, refl, (refl, refl, (refl, refl, (refl, refl, (refl, refl, (refl, refl, (refl, refl, (refl, refl, (refl, refl, tt)))))))))))))))))))))))))))
