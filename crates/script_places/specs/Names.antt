-- Names and keys.
use Rattle.std.specs.Prelude.{ℕ, Bool, false, ◌==◌, ◌&&◌, ◌||◌, if◌then◌else◌, nat_le, List, [], ◌∷◌, length, take, drop, codes, bytes_eq, Result, Ok, Err}
use Rattle.std.specs.List.{list_all}
use Rattle.script_words.specs.declared.cause.Cause.{Cause}
use Rattle.script_words.specs.declared.cause.Cause.TheVariants.{BadName, BadKey}
use Rattle.script_words.specs.Reading.{◌>>=◌}
use Rattle.script_places.specs.Words.{Word, next_of}

abbrev pub is_digit : ℕ → Bool
is_digit b = nat_le 48 b && nat_le b 57

abbrev pub is_lower : ℕ → Bool
is_lower b = nat_le 97 b && nat_le b 122

abbrev pub is_upper : ℕ → Bool
is_upper b = nat_le 65 b && nat_le b 90

-- a lower-case letter or `_`
abbrev pub begins_name : ℕ → Bool
begins_name b = is_lower b || b == 95

abbrev pub is_name_byte : ℕ → Bool
is_name_byte b = begins_name b || is_digit b

-- 1 to 32 bytes
unfoldable pub is_name : List ℕ → Bool
is_name [] = false
is_name (b ∷ bs) = begins_name b && list_all is_name_byte bs && nat_le (length bs) 31

-- letters, digits, `_`, `-` and `.`
abbrev pub is_key_byte : ℕ → Bool
is_key_byte b = is_name_byte b || is_upper b || b == 45 || b == 46

unfoldable pub is_key : List ℕ → Bool
is_key w = nat_le 1 (length w) && nat_le (length w) 64 && list_all is_key_byte w

unfoldable pub name_at : List Word → Result (Word × List Word) Cause
name_at ws = next_of ws >>= λ x. if is_name x.0 then Ok x else Err BadName

-- what stands before the name of a database, where it is written as one of YSQL
abbrev pub prefix : List ℕ
prefix = codes "ysql."

-- the word without that, if it stands there
unfoldable pub unprefixed : List ℕ → List ℕ
unprefixed w = if nat_le 5 (length w) && bytes_eq (take 5 w) prefix then drop 5 w else w

unfoldable pub database_at : List Word → Result (Word × List Word) Cause
database_at ws =
    next_of ws >>= λ x. let name = unprefixed x.0 in if is_name name then Ok (name, x.1) else Err BadName

unfoldable pub key_at : List Word → Result (Word × List Word) Cause
key_at ws = next_of ws >>= λ x. if is_key x.0 then Ok x else Err BadKey
