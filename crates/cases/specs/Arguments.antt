-- What the words of a line say of settings, of places and of what is lent.
-- Assumes nothing.
use Rattle.std.specs.Prelude.{ℕ, cond, Option, Some, None, List, leb}
use Rattle.std.specs.Option.{option_and_then}
use Rattle.limits.specs.declared.Settings.{Settings}
use Rattle.places.specs.declared.Place.{Place}
use Rattle.case_notation.specs.Fields.{split_once}
use Rattle.case_notation.specs.Numbers.{number_of, number_at}

-- a number, if it is at most so much
abbrev pub at_most : ℕ → Option ℕ → Option ℕ
at_most most number = option_and_then (λ n. cond (leb n most) (Some n) None) number

-- how much is lent of a buffer that has so much
abbrev pub room_at : ℕ → ℕ → List ℕ → Option ℕ
room_at most index line = at_most most (number_at index line)

-- A, mi, mo and T are the words after the name of a call: numbers of 8, 8, 8 and 16 bits
abbrev pub settings_in : List ℕ → Option Settings
settings_in line =
    option_and_then (λ activities. option_and_then (λ inputs. option_and_then (λ outputs. option_and_then (λ threshold.
    Some (record { activities = activities; inputs = inputs; outputs = outputs; threshold = threshold }))
    (at_most 65535 (number_at 4 line))) (at_most 255 (number_at 3 line))) (at_most 255 (number_at 2 line))) (at_most 255 (number_at 1 line))

-- a place is hexadecimal numbers of 16 bits, with a slash (47) between
abbrev pub place_in : List ℕ → Option Place
place_in word =
    option_and_then (λ sets. option_and_then (λ inputs. option_and_then (λ outputs.
    Some (record { inputs = inputs; outputs = outputs }))
    (at_most 65535 (number_of 16 sets.1))) (at_most 65535 (number_of 16 sets.0))) (split_once 47 word)

-- what a listing is lent, in four words: how much of a cache of 640 words and of two lists of 320, and
-- a budget
abbrev pub resources_in : List ℕ → Option (ℕ × ℕ × ℕ × ℕ)
resources_in words =
    option_and_then (λ cache. option_and_then (λ list. option_and_then (λ reduced. option_and_then (λ budget.
    Some (cache, list, reduced, budget))
    (number_at 3 words)) (room_at 320 2 words)) (room_at 320 1 words)) (room_at 640 0 words)
