-- The four forms of a time.
use Rattle.std.specs.Prelude.{ℕ, ◌-◌, ◌^◌, ◌==◌, if◌then◌else◌, List, [], ◌∷◌, length, take, get_or, Option, Some, None, codes, bytes_eq, option_map}
use Rattle.model.specs.Scripts.{Time, Micros, MinusMinutes, MinusSeconds, Exact}
use Rattle.script_places.specs.Words.{Word}
use Rattle.script_places.specs.Numbers.{number_of}

-- the last byte of a word that has one, and the bytes before it
abbrev pub last_byte : List ℕ → ℕ
last_byte w = get_or w (length w - 1) 0

abbrev pub front : List ℕ → List ℕ
front w = take (length w - 1) w

-- the most minutes or seconds behind `minus`
abbrev pub most_back : ℕ
most_back = 10000000

-- `5m` or `5s`
unfoldable pub time_back : List ℕ → Option Time
time_back w =
    if length w == 0 then None
    else if last_byte w == 109 then option_map MinusMinutes (number_of most_back (front w))
    else if last_byte w == 115 then option_map MinusSeconds (number_of most_back (front w))
    else None

-- one word or two
unfoldable pub time_of : List Word → Option Time
time_of [] = None
time_of (w ∷ []) = option_map Micros (number_of (2 ^ 50 - 1) w)
time_of (form ∷ w ∷ []) =
    if bytes_eq form (codes "ht") then option_map Exact (number_of (2 ^ 62 - 1) w)
    else if bytes_eq form (codes "minus") then time_back w
    else None
time_of (form ∷ w ∷ v ∷ ws) = None

-- no word is no time
abbrev pub maybe_time : List Word → Option (Option Time)
maybe_time [] = Some None
maybe_time (w ∷ ws) = option_map Some (time_of (w ∷ ws))
