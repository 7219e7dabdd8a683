-- The first fault of a line, in the order of checks: for each answer, the condition that holds and
-- those before it that do not. The checks are tried one by one, and the first that gives a refusal
-- decides.
-- Assumes nothing.
use Rattle.std.specs.Prelude.{Option, None, Some}
use Prim.Native.Nat.{ℕ, ◌≤◌, ◌<◌}
use mathlib.Core.Path.{◌≡◌, refl, subst, ◌∙◌}
use mathlib.Core.Logic.{◌↔◌}
use mathlib.Core.Bool.{true, false}
use mathlib.Core.List.{[], ◌∷◌}
use borrow.Author.Tests.{lt-ltb, le-ltb, le-leb, lt-leb, leb-true, leb-false, ltb-true, ltb-false}
use lib.Dec.{ltb, leb, lit≤}
use lib.ListN.{length}
use Rattle.foundation.proofs.laws.Booleans.{by_test}
use Rattle.limits.specs.declared.Refusal.{Refusal}
use Rattle.limits.specs.declared.Refusal.TheVariants.{MalformedFrame, UnknownActivity, MisplacedEndpoint, TooLarge}
use Rattle.limits.specs.Refusals.{number, value, given, first_of}
use Rattle.event_log_spec.specs.Frames.{most_events, most_frames}
use Rattle.event_log_spec.specs.Lines.{Line, frame_of}
use Rattle.event_log_spec.specs.Checking.{malformed, names_unknown, endpoint_misplaced, line_fault, line_fault_with}

-- the line passes the checks before those of its trace's codes
pub record Readable (k : ℕ) (l : Line) : Type 0 where
  pub few : k < most_frames
  pub formed : malformed l ≡ false
  pub short : length (frame_of l).trace ≤ most_events

-- what the line with index k gives, and why
pub data FaultOrder (A k : ℕ) (l : Line) : Option Refusal → Type 0 where
  -- number 5: the index is too large
  index_large : most_frames ≤ k → FaultOrder A k l (Some (TooLarge k))
  -- number 2: the index is not, and the line is malformed
  line_malformed : k < most_frames → malformed l ≡ true → FaultOrder A k l (Some (MalformedFrame k))
  -- number 5: neither, and the trace is too long
  trace_long : k < most_frames → malformed l ≡ false → most_events < length (frame_of l).trace → FaultOrder A k l (Some (TooLarge k))
  -- number 3: none of these, and the trace has a code that is not below A
  code_unknown : Readable k l → names_unknown A (frame_of l).trace ≡ true → FaultOrder A k l (Some (UnknownActivity k))
  -- number 4: none of these, and the trace has its start or its end in a wrong place
  endpoint_misplaced_lem : Readable k l → names_unknown A (frame_of l).trace ≡ false → endpoint_misplaced (frame_of l).trace ≡ true
      → FaultOrder A k l (Some (MisplacedEndpoint k))
  -- none of these
  no_fault : Readable k l → names_unknown A (frame_of l).trace ≡ false → endpoint_misplaced (frame_of l).trace ≡ false
      → FaultOrder A k l None

module _ (A k : ℕ) (l : Line) where
  -- of a line that can be read, the codes decide
  codes_decide : Readable k l
      → line_fault A k l
      ≡ first_of
      (given (names_unknown A (frame_of l).trace) (UnknownActivity k)
      ∷ given (endpoint_misplaced (frame_of l).trace) (MisplacedEndpoint k)
      ∷ [])
  unfolding line_fault_with
  codes_decide r = rw (lt-leb most_frames k r.few, r.formed, le-ltb most_events (length (frame_of l).trace) r.short)

  codes_order : Readable k l → FaultOrder A k l (line_fault A k l)
  codes_order r =
      rw (codes_decide r)
      (by_test
      (names_unknown A (frame_of l).trace)
      (λ t. rw t (code_unknown r t))
      (λ f. by_test (endpoint_misplaced (frame_of l).trace) (λ t. rw (f, t) (endpoint_misplaced_lem r f t)) (λ g. rw (f, g) (no_fault r f g))))

  formed_order : k < most_frames → malformed l ≡ false → FaultOrder A k l (line_fault A k l)
  unfolding line_fault_with
  formed_order few formed =
      let size = length (frame_of l).trace in
      by_test
      (ltb most_events size)
      (λ t. rw (lt-leb most_frames k few, formed, t) (trace_long few formed (ltb-true most_events size t)))
      (λ f. codes_order (record { few = few; formed = formed; short = ltb-false most_events size f }))

  few_order : k < most_frames → FaultOrder A k l (line_fault A k l)
  unfolding line_fault_with
  few_order few = by_test (malformed l) (λ t. rw (lt-leb most_frames k few, t) (line_malformed few t)) (formed_order few)

  order : FaultOrder A k l (line_fault A k l)
  unfolding line_fault_with
  order =
      by_test
      (leb most_frames k)
      (λ t. rw t (index_large (leb-true most_frames k t)))
      (λ f. few_order (leb-false most_frames k f))

  ordered : {o : Option Refusal} → FaultOrder A k l o → line_fault A k l ≡ o
  unfolding line_fault_with
  ordered (index_large many) = rw (le-leb most_frames k many)
  ordered (line_malformed few t) = rw (lt-leb most_frames k few, t)
  ordered (trace_long few formed long) = rw (lt-leb most_frames k few, formed, lt-ltb most_events (length (frame_of l).trace) long)
  ordered (code_unknown r t) = codes_decide r ∙ rw t
  ordered (endpoint_misplaced_lem r f t) = codes_decide r ∙ rw (f, t)
  ordered (no_fault r f g) = codes_decide r ∙ rw (f, g)

  pub fault_order : (o : Option Refusal) → (line_fault A k l ≡ o) ↔ FaultOrder A k l o
  fault_order o = (λ e. subst (FaultOrder A k l) e order, ordered)

-- a line's refusal names the line, and has one of the numbers 2 to 5
pub record NamesLine (k : ℕ) (r : Refusal) : Type 0 where
  pub line : value r ≡ k
  pub at_least : 2 ≤ number r
  pub at_most : number r ≤ 5

pub names_line : {A k : ℕ} {l : Line} {r : Refusal} → FaultOrder A k l (Some r) → NamesLine k r
unfolding number value
names_line (index_large many) = record { line = refl; at_least = lit≤ tt; at_most = lit≤ tt }
names_line (line_malformed few t) = record { line = refl; at_least = lit≤ tt; at_most = lit≤ tt }
names_line (trace_long few formed long) = record { line = refl; at_least = lit≤ tt; at_most = lit≤ tt }
names_line (code_unknown readable t) = record { line = refl; at_least = lit≤ tt; at_most = lit≤ tt }
names_line (endpoint_misplaced_lem readable f t) = record { line = refl; at_least = lit≤ tt; at_most = lit≤ tt }
