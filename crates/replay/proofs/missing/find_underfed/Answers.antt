-- `replay::missing::find_underfed` meets its contract: a line in whose trace a token is missing,
-- and before which no line underfeeds the place, is the first that does; else the next one's turn
-- comes, until there is none.
-- Assumes nothing.
use Prim.Native.Nat.{ℕ, suc, ◌+◌, ◌<◌}
use native.Mathlib.Omega.{arith}
use mathlib.Core.Path.{sym, ◌∙◌}
use Rattle.foundation.specs.Lists.{each_nil, each_cons}
use Rattle.foundation.proofs.laws.Each.{each_append, each_up_to, up_to_each}
use Rattle.event_log_spec.specs.Lines.{frames_of, frame_at}
use Rattle.event_log.proofs.laws.FrameDigits.{frame_digits}
use Rattle.event_log.proofs.laws.IndexedFrames.{frame_under}
use Rattle.replay_spec.proofs.laws.FirstMissing.{nowhere, none_underfed, first_here}
use Rattle.replay.proofs.missing.find_underfed.Goals as goal

-- what holds of the lines before one and of that one
one_more : {P : ℕ → Type 0} {line : ℕ} → ((earlier : ℕ) → earlier < line → P earlier) → P line → (earlier : ℕ) → earlier < line + 1 → P earlier
one_more {P} {line} before here earlier less =
    up_to_each (suc line) (each_append (each_up_to line before) (each_cons here each_nil)) earlier (omega (arith, less))

pub first_missing-missing-requires : goal.first_missing-missing-requires
first_missing-missing-requires c =
    let digits = frame_digits _ (frame_under c.args.log.now.indexed.log c.loop-line.line (omega arith)) in
    rw c.digits.ensures (digits.short, digits.all_digits)

pub returns-in-AtEvent : goal.returns-in-AtEvent
returns-in-AtEvent c =
    let log = c.args.log.now in
    let line = c.loop-line.line in
    let digits = frame_digits _ (frame_under log.indexed.log line (omega arith)) in
    let missing = rw (c.digits.ensures, digits.trace) at (c.first_missing-missing.ensures c.args.place c.from-sets.ensures) in
    sym
    (first_here
    c.args.place
    (frames_of log.text.now)
    line
    c.in-AtEvent.event
    (omega arith)
    c.loop-line.invariant.1
    (sym missing ∙ c.in-AtEvent.is))

pub loop-line-preserved : goal.loop-line-preserved
loop-line-preserved c =
    let log = c.args.log.now in
    let line = c.loop-line.line in
    let trace = (frame_at log.text.now line).trace in
    let digits = frame_digits _ (frame_under log.indexed.log line (omega arith)) in
    let missing = rw (c.digits.ensures, digits.trace) at (c.first_missing-missing.ensures c.args.place c.from-sets.ensures) in
    let fed = (nowhere c.args.place trace).0 (sym missing ∙ c.in_default.is) in
    (omega arith, one_more c.loop-line.invariant.1 fed, c.next_start-start.ensures)

pub returns : goal.returns
returns c =
    let text = c.args.log.now.text.now in
    sym (none_underfed c.args.place (frames_of text) (λ line less. c.loop-line.invariant.1 line (omega (arith, less))))
