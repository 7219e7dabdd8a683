-- The refusals and the order of checks: document 01, "Settings and the log", the table and the
-- paragraph below it.
-- Assumes nothing.
use Rattle.std.specs.Prelude.{ℕ, ◌≡◌, Bool, true, false, List, [], ◌∷◌, Option, None, Some, Result, Ok, Err}
use Rattle.limits.specs.declared.Refusal.{Refusal}
use Rattle.limits.specs.declared.Refusal.TheVariants.{InvalidSetting, MalformedFrame, UnknownActivity, MisplacedEndpoint, TooLarge, EmptyLog, InvalidPlace, BufferTooSmall}

-- the number of each; beside it the table's own term
unfoldable pub number : Refusal → ℕ
number InvalidSetting = 1  -- setting
number (MalformedFrame line) = 2  -- broken frame
number (UnknownActivity line) = 3  -- stranger
number (MisplacedEndpoint line) = 4  -- loose ends
number (TooLarge line) = 5  -- oversize
number EmptyLog = 6  -- empty log
number (InvalidPlace index) = 7  -- no place
number BufferTooSmall = 8  -- cramped

-- what is returned beside the number
unfoldable pub value : Refusal → ℕ
value InvalidSetting = 0
value (MalformedFrame line) = line
value (UnknownActivity line) = line
value (MisplacedEndpoint line) = line
value (TooLarge line) = line
value EmptyLog = 0
value (InvalidPlace index) = index
value BufferTooSmall = 0

-- a check gives its refusal when its condition holds
abbrev pub given : Bool → Refusal → Option Refusal
given true r = Some r
given false r = None

-- the first check that gives a refusal decides
abbrev pub first_of : List (Option Refusal) → Option Refusal
first_of [] = None
first_of (Some r ∷ later) = Some r
first_of (None ∷ later) = first_of later

-- what each check of a call gives; `None` where it passes, and where the call has no such argument.
-- Those marked (02) are positions for requests of document 02 that have not landed, and no call
-- fills them in
pub record Checks : Type 0 where
  pub settings : Option Refusal  -- 1
  pub arguments : Option Refusal  -- 9, 10 and 12, of a state, a window or groups (02)
  pub places : Option Refusal  -- 7, of a place or a list
  pub map : Option Refusal  -- 11 and 7, line by line (02)
  pub room : Option Refusal  -- 8
  pub emptiness : Option Refusal  -- 6
  pub lines : Option Refusal  -- the faults of the text's lines
  pub result_room : Option Refusal  -- 8, of a buffer whose entries the text decides

-- the order of checks
unfoldable pub first_refusal : Checks → Option Refusal
first_refusal c =
    first_of
    (c.settings
    ∷ c.arguments
    ∷ c.places
    ∷ c.map
    ∷ c.room
    ∷ c.emptiness
    ∷ c.lines
    ∷ c.result_room
    ∷ [])

-- the number of a call's refusal and the value beside it, 0 and 0 where it is not refused
unfoldable pub number_given : Option Refusal → ℕ
number_given None = 0
number_given (Some r) = number r

unfoldable pub value_given : Option Refusal → ℕ
value_given None = 0
value_given (Some r) = value r

-- an answer has this number and value, and they are those of the call's refusal
pub record Numbered (refusal : Option Refusal) (answer_number answer_value : ℕ) : Type 0 where
  pub number_is : answer_number ≡ number_given refusal
  pub value_is : answer_value ≡ value_given refusal

-- one thing where a call is refused, made of its refusal, or else another
abbrev pub answer : {X : Type 0} → (Refusal → X) → Option Refusal → X → X
answer refused None result = result
answer refused (Some r) result = refused r

-- a call answers with its refusal, or else with its result
abbrev pub answered : {X : Type 0} → Option Refusal → X → Result X Refusal
answered None result = Ok result
answered (Some r) result = Err r

-- the number of an answer, 0 where the call is not refused, and the value beside it
unfoldable pub answer_number : {X : Type 0} → Result X Refusal → ℕ
answer_number (Ok result) = 0
answer_number (Err r) = number r

unfoldable pub answer_value : {X : Type 0} → Result X Refusal → ℕ
answer_value (Ok result) = 0
answer_value (Err r) = value r
