-- `frames::frame::of` meets its contract: digits first, then each kind's arm answers what the table says of that kind.
use Prim.Native.Nat.{ℕ}
use mathlib.Core.Bool.{Bool}
use Rattle.std.specs.Prelude.{Option}
use native.Mathlib.Omega.{arith}
use mathlib.Core.Path.{◌≡◌, refl, ap, ◌∙◌}
use mathlib.Core.Logic.{⊎_elim}
use Rattle.hexadecimal.specs.Digits.{byte_at}
use Rattle.frames.specs.declared.frame.Frame.{Frame}
use Rattle.frames.specs.declared.frame.Frame.TheVariants.{Free, Priority, Polynomial, Queue, Offer, Booking, Listing, Queueing, Room}
use Rattle.frames.specs.Step.{on}
use Rattle.frames.specs.Granted.{when_of, kind_frame, frame_of}
use Rattle.frames.proofs.Lengths.{line_refused, line-answered}
use Rattle.frames.proofs.Table.{frame-as, frame-none}
use Rattle.frames.proofs.frame.of.Goals as goal
use Rattle.frames.proofs.frame.of.Goals.{After-byte_at-kind}

-- a line of digits is what the table says of its kind
digits : (c : After-byte_at-kind) {r : Option Frame} → r ≡ kind_frame (byte_at c.args.line.now 0) c.args.line.now
    → r ≡ frame_of c.args.line.now
unfolding frame_of
digits c q = line-answered c.is_line.ensures _ _ c.if-not-is_line.false q

-- what the table says of a kind's number it says of the line
known : (c : After-byte_at-kind) {n : ℕ} {r : Option Frame} → c.byte_at-kind.result ≡ n → r ≡ kind_frame n c.args.line.now
    → r ≡ frame_of c.args.line.now
known c e q = digits c (frame-as _ c.byte_at-kind.ensures e q)

pub returns-then-not-is_line : goal.returns-then-not-is_line
unfolding frame_of
returns-then-not-is_line c = line_refused c.is_line.ensures _ _ c.if-not-is_line.true refl

pub returns-in-1 : goal.returns-in-1
unfolding kind_frame on
returns-in-1 c =
    let at = (goal.at.returns-in-1 c).After-byte_at-kind in
    let is = c.when.ensures ∙ ap (λ (t : Bool). when_of t Free) c.fits.ensures in
    ⊎_elim (λ e. known at e is) (λ e. known at e is) c.in-1.is

pub returns-in-2 : goal.returns-in-2
unfolding kind_frame on
returns-in-2 c =
    let at = (goal.at.returns-in-2 c).After-byte_at-kind in
    let is = c.when-in-2.ensures ∙ ap (λ (t : Bool). when_of t Priority) c.fits-in-2.ensures in
    ⊎_elim (λ e. known at e is) (λ e. known at e is) c.in-2.is

pub returns-in-3 : goal.returns-in-3
unfolding kind_frame on
returns-in-3 c =
    let at = (goal.at.returns-in-3 c).After-byte_at-kind in
    let is = c.when-in-3.ensures ∙ ap (λ (t : Bool). when_of t Polynomial) c.fits-in-3.ensures in
    ⊎_elim (λ e. known at e is) (λ e. known at e is) c.in-3.is

pub returns-in-4 : goal.returns-in-4
unfolding kind_frame on
returns-in-4 c =
    known (goal.at.returns-in-4 c).After-byte_at-kind c.in-4.is
    (c.when-in-4.ensures ∙ ap (λ (t : Bool). when_of t Queue) c.fits-in-4.ensures)

pub returns-in-16 : goal.returns-in-16
unfolding kind_frame on
returns-in-16 c =
    known (goal.at.returns-in-16 c).After-byte_at-kind c.in-16.is
    (c.when-in-16.ensures ∙ ap (λ (t : Bool). when_of t Offer) c.has.ensures)

pub returns-in-17 : goal.returns-in-17
unfolding kind_frame on
returns-in-17 c =
    known (goal.at.returns-in-17 c).After-byte_at-kind c.in-17.is
    (c.when-in-17.ensures ∙ ap (λ (t : Bool). when_of t Booking) c.has-in-17.ensures)

pub returns-in-18 : goal.returns-in-18
unfolding kind_frame on
returns-in-18 c =
    known (goal.at.returns-in-18 c).After-byte_at-kind c.in-18.is
    (c.when-in-18.ensures ∙ ap (λ (t : Bool). when_of t Listing) c.has-in-18.ensures)

pub returns-in-19 : goal.returns-in-19
unfolding kind_frame on
returns-in-19 c =
    known (goal.at.returns-in-19 c).After-byte_at-kind c.in-19.is
    (c.when-in-19.ensures ∙ ap (λ (t : Bool). when_of t Queueing) c.has-in-19.ensures)

pub returns-in-20 : goal.returns-in-20
unfolding kind_frame on
returns-in-20 c =
    known (goal.at.returns-in-20 c).After-byte_at-kind c.in-20.is
    (c.when-in-20.ensures ∙ ap (λ (t : Bool). when_of t Queueing) c.has-in-20.ensures)

pub returns-in-21 : goal.returns-in-21
unfolding kind_frame on
returns-in-21 c =
    known (goal.at.returns-in-21 c).After-byte_at-kind c.in-21.is
    (c.when-in-21.ensures ∙ ap (λ (t : Bool). when_of t Room) c.has-in-21.ensures)

pub returns-in_default : goal.returns-in_default
returns-in_default c =
    digits (goal.at.returns-in_default c).After-byte_at-kind
    (frame-none _ c.byte_at-kind.ensures (λ e. grind arith) (λ e. grind arith) (λ e. grind arith) (λ e. grind arith) (λ e. grind arith) (λ e. grind arith) (λ e. grind arith) (λ e. grind arith) (λ e. grind arith) (λ e. grind arith) (λ e. grind arith) (λ e. grind arith) (λ e. grind arith))
