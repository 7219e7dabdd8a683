-- Where the first token is missing. Of a trace: nowhere exactly if it does not underfeed the place,
-- since its least balance is the balance at some event and at most that at each; else at the event
-- where the balance is below 0 and before which it is not. Of a log: the first line that underfeeds
-- the place, with that event; no line exactly if u is 0, since every frame of a log has a case.
-- Document 02, c).
-- Assumes nothing.
use Rattle.std.specs.Prelude.{Option, None, Some}
use Prim.Native.Nat.{ℕ, ◌≤◌, ◌<◌}
use native.Mathlib.Omega.{arith}
use mathlib.Core.Path.{◌≡◌, refl, sym, ap, ◌∙◌}
use mathlib.Core.Bool.{Bool, true, false, cond, true≢false}
use mathlib.Core.List.{List, [], ◌∷◌, map}
use lib.ListN.{length}
use Rattle.std.specs.List.{position}
use mathlib.Core.Logic.{◌↔◌}
use Rattle.std.proofs.lemmas.List.Quantifiers.{position-Some}
use Rattle.foundation.specs.Lists.{Each, each_nil, each_cons, sum, up_to}
use Rattle.foundation.proofs.laws.Booleans.{by_test}
use Rattle.foundation.proofs.laws.Each.{each_imply, each_placed, up_to_each, length_up_to}
use Rattle.foundation.proofs.laws.Lists.{counted_at}
use Rattle.foundation.proofs.laws.Positions.{first_found, none_found, none_passes}
use Rattle.foundation.proofs.laws.Sums.{sum_zero}
use Rattle.places.specs.declared.Place.{Place}
use Rattle.event_log_spec.specs.Frames.{Frame, frame_in}
use Rattle.replay_spec.specs.declared.FirstMissing.{FirstMissing}
use Rattle.replay_spec.specs.declared.FirstMissing.TheVariants.{NoEvent, AtEvent}
use Rattle.replay_spec.specs.declared.FirstUnderfed.TheVariants.{NoLine, AtLine}
use Rattle.replay_spec.specs.Balance.{balance_at, least_of, least_balance, underfeeds}
use Rattle.replay_spec.specs.Judgement.{case_counts, underfed_cases}
use Rattle.replay_spec.specs.Missing.{missing_at, event_found, first_missing, on_line, line_found, first_underfed, MissingAt, UnderfedAt}
use Rattle.replay_spec.proofs.laws.Counts.{cases_if, cases_where_sum, underfed_all}
use Rattle.replay_spec.proofs.laws.Extremes.{none_below, least_reached}

-- an event that is found
event_is : (k : ℕ) (found : Option ℕ) → event_found found ≡ AtEvent k → found ≡ Some k
event_is k None e = cc
event_is k (Some j) e = cc

not_an_event : {A : Type 0} (k : ℕ) → NoEvent ≡ AtEvent k → A
not_an_event k e = cc

no_event : (found : Option ℕ) → event_found found ≡ NoEvent → found ≡ None
no_event None e = refl
no_event (Some j) e = cc

module _ (p : Place) where
  -- the least balance is that at some event
  once_missing : (trace : List ℕ) → underfeeds trace p ≡ true → (k : ℕ) × (k < length trace) × (missing_at p trace k ≡ true)
  unfolding underfeeds missing_at least_balance least_of
  once_missing [] t = absurd (true≢false (sym t))
  once_missing (a ∷ events) t =
      let (k, less, e) = least_reached p (a ∷ events) (omega arith) in
      (k, less, rw e t)

  module _ (trace : List ℕ) where
    abbrev missing : ℕ → Bool
    missing = missing_at p trace

    abbrev events : List ℕ
    events = up_to (length trace)

    -- and it is at most that at each
    never_missing : underfeeds trace p ≡ false → Each (λ (k : ℕ). missing k ≡ false) events
    unfolding underfeeds missing_at least_balance
    never_missing = none_below (balance_at p trace) events

    -- no token is missing exactly if the trace does not underfeed the place
    pub nowhere : (first_missing p trace ≡ NoEvent) ↔ (underfeeds trace p ≡ false)
    unfolding first_missing
    nowhere = (
      λ e. by_test
          (underfeeds trace p)
          (λ t. let (k, less, at) = once_missing trace t in
          absurd (true≢false (sym at ∙ up_to_each (length trace) (none_passes missing events 0 (no_event _ e)) k less)))
          (λ f. f),
      λ f. ap event_found (none_found missing events 0 (never_missing f)),
    )

    -- else it is missing at the first event where the balance is below 0
    pub somewhere : (k : ℕ) → (first_missing p trace ≡ AtEvent k) ↔ MissingAt p trace k
    unfolding first_missing missing_at
    somewhere k = (
      λ e. let (less, at, before) = position-Some missing events k 0 (event_is k _ e) in
          let among : k < length trace = omega (arith, less, length_up_to (length trace)) in
          record {
            in_trace = among;
            below = rw (counted_at (length trace) k among) at at;
            not_before = λ j earlier. rw (counted_at (length trace) j (omega (arith, among, earlier))) at (before j earlier);
          },
      λ m. ap
          event_found
          (first_found
          missing
          events
          0
          k
          (omega (arith, m.in_trace, length_up_to (length trace)))
          (rw (counted_at (length trace) k m.in_trace) m.below)
          (λ j earlier. rw (counted_at (length trace) j (omega (arith, m.in_trace, earlier))) (m.not_before j earlier))),
    )

-- a line with an event of its trace
line_is : (l line k : ℕ) (m : FirstMissing) → on_line l m ≡ AtLine line k → (l ≡ line) × (m ≡ AtEvent k)
line_is l line k NoEvent e = cc
line_is l line k (AtEvent j) e = (cc, cc)

no_event_on : (l : ℕ) (m : FirstMissing) → on_line l m ≡ NoLine → m ≡ NoEvent
no_event_on l NoEvent e = refl
no_event_on l (AtEvent j) e = cc

-- what stands beyond the last frame
abbrev pub no_frame : Frame
no_frame = frame_in [] 0

module _ (p : Place) (frames : List Frame) where
  abbrev underfed : Frame → Bool
  underfed f = underfeeds f.trace p

  -- no line is told exactly if none underfeeds the place
  pub no_line : (first_underfed p frames ≡ NoLine) ↔ Each (λ (f : Frame). underfeeds f.trace p ≡ false) frames
  unfolding first_underfed
  no_line = (
    λ e. go (position underfed frames) refl e,
    λ each. ap (line_found p frames) (none_found underfed frames no_frame each),
  )
    where
      go : (found : Option ℕ) → position underfed frames ≡ found → line_found p frames found ≡ NoLine
          → Each (λ (f : Frame). underfeeds f.trace p ≡ false) frames
      go None q e = none_passes underfed frames no_frame q
      go (Some line) q e =
          let (less, at, before) = position-Some underfed frames line no_frame q in
          absurd (true≢false (sym at ∙ (nowhere p (frame_in frames line).trace).0 (no_event_on line _ e)))

  -- else it is the first that does, with the event of its trace
  pub some_line : (line k : ℕ) → (first_underfed p frames ≡ AtLine line k) ↔ UnderfedAt p frames line k
  unfolding first_underfed
  some_line line k = (
    λ e. go (position underfed frames) refl e,
    λ u. ap (line_found p frames) (first_found underfed frames no_frame line u.in_log u.underfed u.not_before)
        ∙ ap (on_line line) ((somewhere p (frame_in frames line).trace k).1 u.missing),
  )
    where
      go : (found : Option ℕ) → position underfed frames ≡ found → line_found p frames found ≡ AtLine line k → UnderfedAt p frames line k
      go None q e = cc
      go (Some l) q e =
          let (same, at_event) = line_is l line k _ e in
          let (less, at, before) = position-Some underfed frames l no_frame q in
          let there : UnderfedAt p frames l k =
          record {
            in_log = less;
            underfed = at;
            not_before = before;
            missing = (somewhere p (frame_in frames l).trace k).0 at_event;
          } in
          rw same at there

  -- lines gone through one by one: none of them underfeeds the place, or none before one in whose
  -- trace a token is missing
  pub none_underfed : ((line : ℕ) → line < length frames → underfeeds (frame_in frames line).trace p ≡ false) → first_underfed p frames ≡ NoLine
  none_underfed fed = no_line.1 (each_placed no_frame frames fed)

  pub first_here : (line k : ℕ) → line < length frames → ((earlier : ℕ) → earlier < line → underfeeds (frame_in frames earlier).trace p ≡ false)
      → first_missing p (frame_in frames line).trace ≡ AtEvent k → first_underfed p frames ≡ AtLine line k
  first_here line k less before at =
      let trace = (frame_in frames line).trace in
      (some_line line k).1
      record {
        in_log = less;
        underfed = by_test (underfeeds trace p) (λ t. t) (λ f. not_an_event k (sym ((nowhere p trace).1 f) ∙ at));
        not_before = before;
        missing = (somewhere p trace k).0 at;
      }

  -- of frames that all have a case, none is told exactly if no cases are underfed
  pub no_line_counted : Each (λ (f : Frame). 1 ≤ f.cases) frames → (first_underfed p frames ≡ NoLine) ↔ (underfed_cases (case_counts p frames) ≡ 0)
  no_line_counted counted = (
    λ e. underfed_all p frames
        ∙ cases_where_sum _ frames
        ∙ sum_zero (cases_if _) (each_imply (λ f h. ap (λ (b : Bool). cond b f.cases 0) h) (no_line.0 e)),
    λ e. no_line.1 (none_of frames counted (sym (cases_where_sum _ frames) ∙ sym (underfed_all p frames) ∙ e)),
  )
    where
      none_of : (fs : List Frame) → Each (λ (f : Frame). 1 ≤ f.cases) fs → sum (map (cases_if (λ (t : List ℕ). underfeeds t p)) fs) ≡ 0
          → Each (λ (f : Frame). underfeeds f.trace p ≡ false) fs
      none_of [] counted e = each_nil
      none_of (f ∷ fs) (each_cons some counted) e =
          each_cons
          (by_test (underfed f) (λ t. absurd (omega (arith, some, e, ap (λ (b : Bool). cond b f.cases 0) t))) (λ g. g))
          (none_of fs counted (omega (arith, e)))
