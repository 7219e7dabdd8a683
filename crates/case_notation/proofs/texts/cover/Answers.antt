-- `case_notation::texts::cover` meets its contract: the first copy is written, and each copy of what
-- is covered goes on as the copies do.
-- Assumes nothing.
use Rattle.std.proofs.Common.{rules, ◌≡◌, arith, length, map, min}
use Rattle.std.proofs.lemmas.List.{length-map}
use Rattle.std.proofs.lemmas.Iterator.{YieldsList-from_slice, YieldsList-from_map}
use Rattle.std.proofs.lemmas.Iterator.Consumers.{YieldsList-at}
use Rattle.case_notation.specs.Texts.{byte_meant}
use Rattle.case_notation.proofs.laws.FilledParts.{filled_count, filled_front}
use Rattle.case_notation.proofs.laws.Repeats.{doubled, first_copy, length-copies}
use Rattle.case_notation.proofs.texts.cover.Goals as goal

pub loop-covered-init : goal.loop-covered-init
loop-covered-init c =
    let first = c.fill-first.ensures (map byte_meant c.args.bytes.now)
    (YieldsList-from_map _ byte_meant
    (YieldsList-at c.map.ensures.source (YieldsList-from_slice c.args.bytes.now (search rules)))
    c.map.ensures.closure (λ x r q k. search rules)) in
    let same : length c.fill-first.new.buffer ≡ length c.args.buffer.now = omega arith in
    let covered : c.unwrap_or-covered.result ≡ min (length c.args.bytes.now) (length c.fill-first.new.buffer) =
    omega (arith, c.unwrap_or-covered.ensures, filled_count first same, length-map c.args.bytes.now byte_meant) in
    record {
      some = λ h. omega (arith, c.requires);
      within = omega arith;
      copies = λ times long.
          first_copy times c.args.bytes.now _ _ long covered
          (filled_front first _ (omega (arith, length-map c.args.bytes.now byte_meant)) (omega arith));
    }

pub loop-covered-preserved : goal.loop-covered-preserved
loop-covered-preserved c =
    let i = c.loop-covered.invariant in
    let same : length c.copy_within.new.self ≡ length c.loop-covered.buffer = c.copy_within.ensures.len in
    record {
      some = λ h. omega (arith, i.some);
      within = omega arith;
      copies = λ times long.
          doubled (i.copies times (omega arith)) c.loop-covered-test.true (omega (arith, length-copies c.args.bytes.now times)) c.min-more.ensures c.copy_within.ensures.after same;
    }
