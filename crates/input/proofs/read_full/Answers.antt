-- `input::read_full` meets its contract: what a read gives stands behind what was read before.
-- Assumes nothing.
use Rattle.std.proofs.Common.{ℕ, ◌+◌, ◌≤◌, ◌≡◌, List, ◌++◌, length, take, subst, sym, ap, ◌∙◌, rules}
use Rattle.std.specs.Io.KnownBytes.{Consumes}
use Rattle.std.proofs.KnownBytes.{Consumes-trans}
use Rattle.std.proofs.lemmas.List.{length-take-le, take-append-le}
use Rattle.std.proofs.Math.Seq.{take-append-add}
use borrow.Rule.Slice.PartMut.{put_mid, post_of}
use Rattle.input.proofs.read_full.Goals as goal

take_behind : (at k count : ℕ) (buffer read : List ℕ) → at ≤ length buffer → count ≤ length read
    → take (at + count) (put_mid at k buffer read) ≡ take at buffer ++ take count read
take_behind at k count buffer read before fits =
    let others = read ++ post_of at k buffer in
    ap (λ (n : ℕ). take (n + count) (take at buffer ++ others)) (sym (length-take-le at buffer before))
    ∙ take-append-add (take at buffer) others count
    ∙ ap (◌++◌ (take at buffer)) (take-append-le count read (post_of at k buffer) fits)

pub loop-count-preserved : goal.loop-count-preserved
loop-count-preserved g c =
    record {
      within = search rules;
      bytes =
          subst (Consumes (g.R.Read.remaining c.args.reader.now) (g.R.Read.remaining c.read.new.self))
          (sym (take_behind _ _ _ _ _ c.loop-count.invariant.within c.in_ok-more.ensures.bound.0))
          (Consumes-trans _ _ _ _ _ c.loop-count.invariant.bytes c.in_ok-more.ensures.bytes.0);
    }
