-- 01, "Proved cases": the eleven cases, in 01's words above each row. Every row opens fresh, with A's figures where no others are given.
-- Below them cases that 02 asks again: R-5, under edition 2; R-6, in mode 2; R-4, under both rules; R-7, with the flag on.
use Rattle.std.specs.Prelude.{true, false, List, [], ◌∷◌, pos}
use Rattle.units.specs.declared.Interval.{Interval}
use Rattle.units.specs.Answer.{interval}
use Rattle.segmentation.specs.declared.RateSegment.{RateSegment}
use Rattle.segmentation.specs.declared.DelaySegment.{DelaySegment}
use Rattle.contact.specs.Choices.{ported}
use Rattle.poly_seg.specs.Choices.{ported as ported_polynomial}
use Rattle.legacy.specs.Choices.{ported as ported_queue}
use Rattle.cases.specs.Words.{Case, free, priority, polynomial, queue, dry_run, book, list, done, ◌⇒◌}
use Rattle.cases.specs.Words.{case, edition, mode, rule, polynomial_rule, strict, polynomial_strict, queue_strict, rate, delay, flags, dates, sends, refusal, lists, queued, row, unbooked}

-- contact A: [0,10), rate 10, delay 3
abbrev pub A : Interval
A = interval 0 10

abbrev pub A-rates : List RateSegment
A-rates = rate 0 10 10 ∷ []

abbrev pub A-delays : List DelaySegment
A-delays = delay 0 10 3 ∷ []

-- case 7's delays: a boundary at 4
abbrev pub two-delays : List DelaySegment
two-delays = delay 0 4 10 ∷ delay 4 10 2 ∷ []

abbrev pub table : List Case
table =
    -- 1. Free, at 3, size 15: send 3,4, receive 6,7; booked: [0,3) 30, [4,10) 60.
    case 1 (free ported A A-rates A-delays)
    (dry_run 3 15 0 ⇒ sends 3 4 6 7
    ∷ book 3 15 0 (dates 3 4 6 7) ⇒ done 0
    ∷ list ⇒ lists (row 0 3 30 ∷ row 4 10 60 ∷ [])
    ∷ [])
    -- 2. At 0, size 15: send 0,1; booked: [1,10) 85.
    ∷ case 2 (free ported A A-rates A-delays)
    (dry_run 0 15 0 ⇒ sends 0 1 3 4
    ∷ book 0 15 0 (dates 0 1 3 4) ⇒ done 0
    ∷ list ⇒ lists (row 1 10 85 ∷ [])
    ∷ [])
    -- 3. At 5, size 9: send 5,5; booked: [0,5) 50 only.
    ∷ case 3 (free ported A A-rates A-delays)
    (dry_run 5 9 0 ⇒ sends 5 5 8 8
    ∷ book 5 9 0 (dates 5 5 8 8) ⇒ done 0
    ∷ list ⇒ lists (row 0 5 50 ∷ [])
    ∷ [])
    -- 4. At 0, size 100: send 0,10; booked: [10,10) 0.
    ∷ case 4 (free ported A A-rates A-delays)
    (dry_run 0 100 0 ⇒ sends 0 10 3 13
    ∷ book 0 100 0 (dates 0 10 3 13) ⇒ done 0
    ∷ list ⇒ lists (row 10 10 0 ∷ [])
    ∷ [])
    -- 4. Size 101: 7.
    ∷ case 4 (free ported A A-rates A-delays)
    (dry_run 0 101 0 ⇒ refusal 7
    ∷ [])
    -- 5. After size 50 at 5: at 3, size 29: send 3,5; size 30: 7.
    ∷ case 5 (free ported A A-rates A-delays)
    (dry_run 5 50 0 ⇒ sends 5 10 8 13
    ∷ book 5 50 0 (dates 5 10 8 13) ⇒ done 0
    ∷ dry_run 3 29 0 ⇒ sends 3 5 6 8
    ∷ dry_run 3 30 0 ⇒ refusal 7
    ∷ [])
    -- 6. Rates [0,4) 2, [4,10) 5; at 1, size 11 or 14: end 5.
    ∷ case 6 (free ported A (rate 0 4 2 ∷ rate 4 10 5 ∷ []) A-delays)
    (dry_run 1 11 0 ⇒ sends 1 5 4 8
    ∷ dry_run 1 14 0 ⇒ sends 1 5 4 8
    ∷ [])
    -- 7. Delays [0,4) 10, [4,10) 2; A's rate; at 4, size 10: send 4,5, receive 14,7.
    ∷ case 7 (free ported A A-rates two-delays)
    (dry_run 4 10 0 ⇒ sends 4 5 14 7
    ∷ [])
    -- 8. Priority 1, at 2, size 30: [0,2) -1, [2,5) 1, [5,10) -1. Then at 0, size 30: priority 1 gets 5,8; priority 2 gets 0,3 and,
    -- booked, [0,2) 2, [2,3) 2, [3,5) 1, [5,10) -1.
    ∷ case 8 (priority ported A A-rates A-delays)
    (dry_run 2 30 1 ⇒ sends 2 5 5 8
    ∷ book 2 30 1 (dates 2 5 5 8) ⇒ done 0
    ∷ list ⇒ lists (unbooked 0 2 ∷ row 2 5 1 ∷ unbooked 5 10 ∷ [])
    ∷ dry_run 0 30 1 ⇒ sends 5 8 8 11
    ∷ dry_run 0 30 2 ⇒ sends 0 3 3 6
    ∷ book 0 30 2 (dates 0 3 3 6) ⇒ done 0
    ∷ list ⇒ lists (row 0 2 2 ∷ row 2 3 2 ∷ row 3 5 1 ∷ unbooked 5 10 ∷ [])
    ∷ [])
    -- 9. Priority 0, at 5, size 9: [0,5) -1, [5,5) 0, [5,10) -1. Then priority 0, at 0, size 100: 7.
    ∷ case 9 (priority ported A A-rates A-delays)
    (dry_run 5 9 0 ⇒ sends 5 5 8 8
    ∷ book 5 9 0 (dates 5 5 8 8) ⇒ done 0
    ∷ list ⇒ lists (unbooked 0 5 ∷ row 5 5 0 ∷ unbooked 5 10 ∷ [])
    ∷ dry_run 0 100 0 ⇒ refusal 7
    ∷ [])
    -- 10. Coefficients 10,0,0,0, offset 0, window [0,10): at 3, size 15 or 20: send 3,5.
    ∷ case 10 (polynomial ported_polynomial (interval 0 10) (pos 10 ∷ pos 0 ∷ pos 0 ∷ pos 0 ∷ []) 0 A-delays)
    (dry_run 3 15 0 ⇒ sends 3 5 6 8
    ∷ dry_run 3 20 0 ⇒ sends 3 5 6 8
    ∷ [])
    -- 10. With 0,1,0,0: size 1 gives 7.
    ∷ case 10 (polynomial ported_polynomial (interval 0 10) (pos 0 ∷ pos 1 ∷ pos 0 ∷ pos 0 ∷ []) 0 A-delays)
    (dry_run 3 1 0 ⇒ refusal 7
    ∷ [])
    -- 11. Queue, 3 classes, rate 10, delay 2, [0,10), unbudgeted, both flags: size 25, priority 1, at 0: send 0,2, receive 2,4; booked
    -- 25,25,0. Then size 25, priority 0, at 0: send 2,4.
    ∷ case 11 (queue ported_queue (interval 0 10) 10 2 3 (flags true true false) [])
    (dry_run 0 25 1 ⇒ sends 0 2 2 4
    ∷ book 0 25 1 (dates 0 2 2 4) ⇒ done 0
    ∷ list ⇒ queued (25 ∷ 25 ∷ 0 ∷ [])
    ∷ dry_run 0 25 0 ⇒ sends 2 4 4 6
    ∷ [])
    -- 02, R-5, edition 2. Case 5: after size 50 at 5, two ticks of ten are left at 3: size 29, and 21: 7; size 20: send 3,5.
    ∷ case 5 (free (edition 2) A A-rates A-delays)
    (dry_run 5 50 0 ⇒ sends 5 10 8 13
    ∷ book 5 50 0 (dates 5 10 8 13) ⇒ done 0
    ∷ dry_run 3 29 0 ⇒ refusal 7
    ∷ dry_run 3 21 0 ⇒ refusal 7
    ∷ dry_run 3 20 0 ⇒ sends 3 5 6 8
    ∷ [])
    -- Case 2: at 0, size 15: send 0,2; booked: [2,10) with its exact capacity, 80. The first end is not offered.
    ∷ case 2 (free (edition 2) A A-rates A-delays)
    (book 0 15 0 (dates 0 1 3 4) ⇒ done 9
    ∷ dry_run 0 15 0 ⇒ sends 0 2 3 5
    ∷ book 0 15 0 (dates 0 2 3 5) ⇒ done 0
    ∷ list ⇒ lists (row 2 10 80 ∷ [])
    ∷ [])
    -- Case 9: priority 0, at 5, size 9: send 5,6; booked, no segment is empty: [0,5) -1, [5,6) 0, [6,10) -1.
    ∷ case 9 (priority (edition 2) A A-rates A-delays)
    (dry_run 5 9 0 ⇒ sends 5 6 8 9
    ∷ book 5 9 0 (dates 5 6 8 9) ⇒ done 0
    ∷ list ⇒ lists (unbooked 0 5 ∷ row 5 6 0 ∷ unbooked 6 10 ∷ [])
    ∷ [])
    -- 02, R-6, mode 2. Case 10's last line, 0,1,0,0, asked at 0: size 1: send 0,2. The whole pass carries 50: send 0,10; 51: 7.
    ∷ case 10 (polynomial (mode 2) (interval 0 10) (pos 0 ∷ pos 1 ∷ pos 0 ∷ pos 0 ∷ []) 0 A-delays)
    (dry_run 0 50 0 ⇒ sends 0 10 3 13
    ∷ dry_run 0 51 0 ⇒ refusal 7
    ∷ dry_run 0 1 0 ⇒ sends 0 2 3 5
    ∷ book 0 1 0 (dates 0 2 3 5) ⇒ done 0
    ∷ list ⇒ lists (row 2 10 0 ∷ [])
    ∷ [])
    -- Case 10's first line is the same: 10,0,0,0, at 3, size 15 or 20: send 3,5.
    ∷ case 10 (polynomial (mode 2) (interval 0 10) (pos 10 ∷ pos 0 ∷ pos 0 ∷ pos 0 ∷ []) 0 A-delays)
    (dry_run 3 20 0 ⇒ sends 3 5 6 8
    ∷ dry_run 3 15 0 ⇒ sends 3 5 6 8
    ∷ [])
    -- 02, R-4, rule 1: case 7 of the other managers, and a send that ends on the boundary, which has the earlier delay too: 3,4, receive 13,14.
    ∷ case 7 (priority ported A A-rates two-delays)
    (dry_run 4 10 0 ⇒ sends 4 5 14 7
    ∷ dry_run 3 10 0 ⇒ sends 3 4 13 14
    ∷ [])
    ∷ case 7 (polynomial ported_polynomial A (pos 10 ∷ pos 0 ∷ pos 0 ∷ pos 0 ∷ []) 0 two-delays)
    (dry_run 4 10 0 ⇒ sends 4 5 14 7
    ∷ dry_run 3 10 0 ⇒ sends 3 4 13 14
    ∷ [])
    -- Rule 2: the boundary has the later delay, receive 6,7 and 13,6; the window's end has the last: send 4,10, receive 6,12. The first dates are not offered.
    ∷ case 7 (free (rule 2) A A-rates two-delays)
    (dry_run 4 10 0 ⇒ sends 4 5 6 7
    ∷ dry_run 3 10 0 ⇒ sends 3 4 13 6
    ∷ dry_run 4 60 0 ⇒ sends 4 10 6 12
    ∷ book 4 10 0 (dates 4 5 14 7) ⇒ done 9
    ∷ book 4 10 0 (dates 4 5 6 7) ⇒ done 0
    ∷ list ⇒ lists (row 0 4 40 ∷ row 5 10 50 ∷ [])
    ∷ [])
    ∷ case 7 (priority (rule 2) A A-rates two-delays)
    (dry_run 4 10 0 ⇒ sends 4 5 6 7
    ∷ dry_run 3 10 0 ⇒ sends 3 4 13 6
    ∷ dry_run 4 60 0 ⇒ sends 4 10 6 12
    ∷ [])
    ∷ case 7 (polynomial (polynomial_rule 2) A (pos 10 ∷ pos 0 ∷ pos 0 ∷ pos 0 ∷ []) 0 two-delays)
    (dry_run 4 10 0 ⇒ sends 4 5 6 7
    ∷ dry_run 3 10 0 ⇒ sends 3 4 13 6
    ∷ dry_run 4 60 0 ⇒ sends 4 10 6 12
    ∷ [])
    -- 02, R-7, the flag on. Case 3: at 5, size 9: send 5,5 is shown, booking it is 17, other dates without length are 9, and the list stays; size 10: send 5,6.
    ∷ case 3 (free (strict 1) A A-rates A-delays)
    (dry_run 5 9 0 ⇒ sends 5 5 8 8
    ∷ book 5 9 0 (dates 5 5 8 8) ⇒ done 17
    ∷ book 5 9 0 (dates 6 6 9 9) ⇒ done 9
    ∷ list ⇒ lists (row 0 10 100 ∷ [])
    ∷ dry_run 5 10 0 ⇒ sends 5 6 8 9
    ∷ book 5 10 0 (dates 5 6 8 9) ⇒ done 0
    ∷ list ⇒ lists (row 0 5 50 ∷ row 6 10 40 ∷ [])
    ∷ [])
    -- Case 9: priority 0, at 5, size 9: 17, and no segment is empty; so priority 0, at 0, size 100: send 0,10.
    ∷ case 9 (priority (strict 1) A A-rates A-delays)
    (dry_run 5 9 0 ⇒ sends 5 5 8 8
    ∷ book 5 9 0 (dates 5 5 8 8) ⇒ done 17
    ∷ list ⇒ lists (unbooked 0 10 ∷ [])
    ∷ dry_run 0 100 0 ⇒ sends 0 10 3 13
    ∷ [])
    -- Case 10's first line is the same.
    ∷ case 10 (polynomial (polynomial_strict 1) (interval 0 10) (pos 10 ∷ pos 0 ∷ pos 0 ∷ pos 0 ∷ []) 0 A-delays)
    (dry_run 3 16 0 ⇒ sends 3 5 6 8
    ∷ book 3 16 0 (dates 3 5 6 8) ⇒ done 0
    ∷ list ⇒ lists (row 0 3 0 ∷ row 5 10 0 ∷ [])
    ∷ [])
    -- Case 11: size 9, priority 1, at 0: send 0,0, receive 2,2, is 17 and queues nothing; size 20: 20,20,0.
    ∷ case 11 (queue (queue_strict 1) (interval 0 10) 10 2 3 (flags true true false) [])
    (dry_run 0 9 1 ⇒ sends 0 0 2 2
    ∷ book 0 9 1 (dates 0 0 2 2) ⇒ done 17
    ∷ list ⇒ queued (0 ∷ 0 ∷ 0 ∷ [])
    ∷ book 0 20 1 (dates 0 2 2 4) ⇒ done 0
    ∷ list ⇒ queued (20 ∷ 20 ∷ 0 ∷ [])
    ∷ [])
    ∷ []
