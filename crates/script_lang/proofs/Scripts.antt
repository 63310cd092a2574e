-- A text is read as the script that it is, or is refused at its first wrong line.
use Rattle.std.proofs.Common.{◌≡◌, ℕ, ◌+◌, ◌^◌, ◌<◌, inl, inr, Bool, true, false, ◌&&◌, ◌||◌, cond, List, [], ◌∷◌, ◌++◌, length, Option, Some, None, Result, Ok, Err, refl, sym, ap, subst, ◌∙◌, append_assoc, arith}
use Rattle.std.specs.Prelude.{◌==◌}
use Rattle.std.specs.List.{AllByRecursion, list_all}
use Rattle.std.proofs.lemmas.Bool.{and_parts, and_from}
use Rattle.std.proofs.lemmas.List.{append-nil}
use Rattle.script_words.specs.declared.cause.Cause.{Cause}
use Rattle.script_words.specs.Lines.{begins_with, onto, lines_of}
use Rattle.script_words.specs.Words.{is_printed, is_plain}
use Rattle.model.specs.Scripts.{ScriptCommand}
use Rattle.script_lang.specs.declared.script.ScriptLine.{ScriptLine}
use Rattle.script_lang.specs.Script.{line_of, numbered, after_line, script_from, script_of}
use Rattle.script_lang.specs.Grammar.{LineRefused, AreLines, IsScript, IsAnyLine, IsFirstRefused, IsRefusedAt, is_text}
use Rattle.script_lang.proofs.Lines.{line_is, line_again, line_not, line_refused}

abbrev okay : List ScriptLine → Result (List ScriptLine) (ℕ × Cause)
okay lines = Ok lines

abbrev failed : ℕ → Cause → Result (List ScriptLine) (ℕ × Cause)
failed n cause = Err (n, cause)

abbrev pair : ℕ → Cause → ℕ × Cause
pair n c = (n, c)

same_ok : (x y : List ScriptLine) → okay x ≡ okay y → x ≡ y
same_ok x y e = cc

same_line : (n m : ℕ) (c d : Cause) → failed n c ≡ failed m d → (n ≡ m) × (c ≡ d)
same_line n m c d e =
    let same : pair n c ≡ pair m d = cc in
    (ap (λ (p : ℕ × Cause). p.0) same, ap (λ (p : ℕ × Cause). p.1) same)

-- the commands that were read behind those that are kept
abbrev Behind : ℕ → List (List ℕ) → ℕ → List ScriptLine → List ScriptLine → Type 0
Behind slots lines n kept all = (found : List ScriptLine) × (all ≡ kept ++ found) × AreLines slots lines n found

read_by : (slots : ℕ) (line : List ℕ) (lines : List (List ℕ)) (n : ℕ) (kept all : List ScriptLine) (r : Result (Option ScriptCommand) Cause) → slots < 2 ^ 64 → line_of slots line ≡ r
    → ((others : List ScriptLine) → script_from slots lines (n + 1) others ≡ Ok all → Behind slots lines (n + 1) others all)
    → after_line n kept r (script_from slots lines (n + 1)) ≡ Ok all → Behind slots (line ∷ lines) n kept all
read_by slots line lines n kept all (Err cause) few is later e = absurd cc
read_by slots line lines n kept all (Ok None) few is later e =
    let rest = later kept e in
    (rest.0, rest.1, inl (line_is slots line None few is, rest.2))
read_by slots line lines n kept all (Ok (Some command)) few is later e =
    let rest = later (kept ++ (numbered n command ∷ [])) e in (
      numbered n command ∷ rest.0,
      rest.1 ∙ append_assoc kept (numbered n command ∷ []) rest.0,
      inr (command, rest.0, line_is slots line (Some command) few is, refl, rest.2),
    )

lines_are : (slots : ℕ) (lines : List (List ℕ)) (n : ℕ) (kept all : List ScriptLine) → slots < 2 ^ 64 → script_from slots lines n kept ≡ Ok all → Behind slots lines n kept all
unfolding script_from
lines_are slots [] n kept all few e = ([], sym (same_ok kept all e) ∙ sym (append-nil kept), refl)
lines_are slots (line ∷ lines) n kept all few e =
    read_by slots line lines n kept all (line_of slots line) few refl (λ others h. lines_are slots lines (n + 1) others all few h) e

lines_again : (slots : ℕ) (lines : List (List ℕ)) (n : ℕ) (kept found : List ScriptLine) → slots < 2 ^ 64 → AreLines slots lines n found → script_from slots lines n kept ≡ Ok (kept ++ found)
unfolding script_from
lines_again slots [] n kept found few are = ap okay (sym (append-nil kept) ∙ ap (λ (ls : List ScriptLine). kept ++ ls) (sym are))
lines_again slots (line ∷ lines) n kept found few (inl are) =
    rw (line_again slots line None few are.0) (lines_again slots lines (n + 1) kept found few are.1)
lines_again slots (line ∷ lines) n kept found few (inr are) =
    let one : ScriptLine = numbered n are.0 in
    rw (line_again slots line (Some are.0) few are.2)
    (lines_again slots lines (n + 1) (kept ++ (one ∷ [])) are.1 few are.4
    ∙ ap okay (append_assoc kept (one ∷ []) are.1 ∙ ap (λ (ls : List ScriptLine). kept ++ ls) (sym are.3)))

front_is : (slots : ℕ) (lines : List (List ℕ)) (found : List ScriptLine) → Behind slots lines 1 [] found → AreLines slots lines 1 found
front_is slots lines found behind = subst (λ (ls : List ScriptLine). AreLines slots lines 1 ls) (sym behind.1) behind.2

pub script_is : (slots : ℕ) (text : List ℕ) (found : List ScriptLine) → slots < 2 ^ 64 → script_of slots text ≡ Ok found → IsScript slots text found
script_is slots text found few e = front_is slots (lines_of text) found (lines_are slots (lines_of text) 1 [] found few e)

pub script_again : (slots : ℕ) (text : List ℕ) (found : List ScriptLine) → slots < 2 ^ 64 → IsScript slots text found → script_of slots text ≡ Ok found
script_again slots text found few is = lines_again slots (lines_of text) 1 [] found few is

-- the first line that isn't in the grammar
one_more : (slots : ℕ) (line : List ℕ) (lines : List (List ℕ)) (n m : ℕ) (cause : Cause) → IsAnyLine slots line → IsFirstRefused slots lines (n + 1) m cause → IsFirstRefused slots (line ∷ lines) n m cause
one_more slots line lines n m cause is first = record {
  before = line ∷ first.before;
  line = first.line;
  behind = first.behind;
  whole = ap (λ (ls : List (List ℕ)). line ∷ ls) first.whole;
  place = omega (arith, first.place);
  read = (is, first.read);
  refused = first.refused;
}

abbrev refused_for : Cause → Result (Option ScriptCommand) Cause
refused_for c = Err c

first_by : (slots : ℕ) (line : List ℕ) (lines : List (List ℕ)) (n m : ℕ) (cause : Cause) (kept : List ScriptLine) (r : Result (Option ScriptCommand) Cause) → slots < 2 ^ 64 → line_of slots line ≡ r
    → ((others : List ScriptLine) → script_from slots lines (n + 1) others ≡ Err (m, cause) → IsFirstRefused slots lines (n + 1) m cause)
    → after_line n kept r (script_from slots lines (n + 1)) ≡ Err (m, cause) → IsFirstRefused slots (line ∷ lines) n m cause
first_by slots line lines n m cause kept (Err d) few is later e =
    let same = same_line n m d cause e in
    record { before = []; line = line; behind = lines; whole = refl; place = omega (arith, same.0); read = tt; refused = line_not slots line cause few (is ∙ ap refused_for same.1) }
first_by slots line lines n m cause kept (Ok None) few is later e = one_more slots line lines n m cause (None, line_is slots line None few is) (later kept e)
first_by slots line lines n m cause kept (Ok (Some c)) few is later e =
    one_more slots line lines n m cause (Some c, line_is slots line (Some c) few is) (later (kept ++ (numbered n c ∷ [])) e)

first_of_lines : (slots : ℕ) (lines : List (List ℕ)) (n m : ℕ) (cause : Cause) (kept : List ScriptLine) → slots < 2 ^ 64 → script_from slots lines n kept ≡ Err (m, cause) → IsFirstRefused slots lines n m cause
unfolding script_from
first_of_lines slots [] n m cause kept few e = absurd cc
first_of_lines slots (line ∷ lines) n m cause kept few e =
    first_by slots line lines n m cause kept (line_of slots line) few refl (λ others h. first_of_lines slots lines (n + 1) m cause others few h) e

-- a line that is read hands on what the rest gives
past : (found : Option ScriptCommand) (n : ℕ) (kept : List ScriptLine) (rest : List ScriptLine → Result (List ScriptLine) (ℕ × Cause)) (r : Result (List ScriptLine) (ℕ × Cause))
    → ((others : List ScriptLine) → rest others ≡ r) → after_line n kept (Ok found) rest ≡ r
past None n kept rest r h = h kept
past (Some c) n kept rest r h = h (kept ++ (numbered n c ∷ []))

refused_by_lines : (slots : ℕ) (before : List (List ℕ)) (n : ℕ) (line : List ℕ) (behind : List (List ℕ)) (cause : Cause) (kept : List ScriptLine) → slots < 2 ^ 64
    → AllByRecursion (IsAnyLine slots) before → LineRefused slots line cause
    → script_from slots (before ++ (line ∷ behind)) n kept ≡ Err (n + length before, cause)
unfolding script_from
refused_by_lines slots [] n line behind cause kept few read is =
    rw (line_refused slots line cause few is) (ap (λ (k : ℕ). failed k cause) (omega arith))
refused_by_lines slots (first ∷ before) n line behind cause kept few read is =
    let count : ((n + 1) + length before) ≡ n + length (first ∷ before) = omega arith in
    let rest = λ (others : List ScriptLine). refused_by_lines slots before (n + 1) line behind cause others few read.1 is ∙ ap (λ (k : ℕ). failed k cause) count in
    rw (line_again slots first read.0.0 few read.0.1)
    (past read.0.0 n kept (script_from slots (before ++ (line ∷ behind)) (n + 1)) (failed (n + length (first ∷ before)) cause) rest)

pub refusal_is : (slots n : ℕ) (text : List ℕ) (cause : Cause) → slots < 2 ^ 64 → script_of slots text ≡ Err (n, cause) → IsRefusedAt slots text n cause
refusal_is slots n text cause few e = first_of_lines slots (lines_of text) 1 n cause [] few e

pub refusal_again : (slots n : ℕ) (text : List ℕ) (cause : Cause) → slots < 2 ^ 64 → IsRefusedAt slots text n cause → script_of slots text ≡ Err (n, cause)
refusal_again slots n text cause few first =
    ap (λ (ls : List (List ℕ)). script_from slots ls 1 []) first.whole
    ∙ refused_by_lines slots first.before 1 first.line first.behind cause [] few first.read first.refused
    ∙ ap (λ (k : ℕ). failed k cause) first.place

-- bytes
or_left : (a b : Bool) → a ≡ true → (a || b) ≡ true
or_left true b e = refl
or_left false b e = absurd cc

or_right : (a b : Bool) → b ≡ true → (a || b) ≡ true
or_right true b e = refl
or_right false b e = e

plain_onto : (b : ℕ) (lines : List (List ℕ)) → list_all is_plain (onto b lines) ≡ true → (is_printed b ≡ true) × (list_all is_plain lines ≡ true)
plain_onto b [] e = ((and_parts (is_printed b) true (and_parts (is_plain (b ∷ [])) true e).0).0, refl)
plain_onto b (line ∷ lines) e =
    let p = and_parts (is_plain (b ∷ line)) (list_all is_plain lines) e in
    let q = and_parts (is_printed b) (is_plain line) p.0 in
    (q.0, and_from (is_plain line) (list_all is_plain lines) q.1 p.1)

byte_by : (b : ℕ) (bs : List ℕ) (feed return : Bool) → (b == 10) ≡ feed → (b == 13 && begins_with 10 bs) ≡ return
    → list_all is_plain (cond feed ([] ∷ lines_of bs) (cond return (lines_of bs) (onto b (lines_of bs)))) ≡ true
    → ((is_printed b || b == 10 || (b == 13 && begins_with 10 bs)) ≡ true) × (list_all is_plain (lines_of bs) ≡ true)
byte_by b bs true return f r e = (or_left (is_printed b || b == 10) (b == 13 && begins_with 10 bs) (or_right (is_printed b) (b == 10) f), e)
byte_by b bs false true f r e = (or_right (is_printed b || b == 10) (b == 13 && begins_with 10 bs) r, e)
byte_by b bs false false f r e =
    let p = plain_onto b (lines_of bs) e in
    (or_left (is_printed b || b == 10) (b == 13 && begins_with 10 bs) (or_left (is_printed b) (b == 10) p.0), p.1)

plain_text : (text : List ℕ) → list_all is_plain (lines_of text) ≡ true → is_text text ≡ true
plain_text [] e = refl
plain_text (b ∷ bs) e =
    let p = byte_by b bs (b == 10) (b == 13 && begins_with 10 bs) refl refl e in
    and_from (is_printed b || b == 10 || (b == 13 && begins_with 10 bs)) (is_text bs) p.0 (plain_text bs p.1)

plain_lines : (slots : ℕ) (lines : List (List ℕ)) (n : ℕ) (found : List ScriptLine) → AreLines slots lines n found → list_all is_plain lines ≡ true
plain_lines slots [] n found are = refl
plain_lines slots (line ∷ lines) n found (inl are) = and_from (is_plain line) (list_all is_plain lines) are.0.0.1 (plain_lines slots lines (n + 1) found are.1)
plain_lines slots (line ∷ lines) n found (inr are) = and_from (is_plain line) (list_all is_plain lines) are.2.0.1 (plain_lines slots lines (n + 1) are.1 are.4)

pub text_is : (slots : ℕ) (text : List ℕ) (found : List ScriptLine) → IsScript slots text found → is_text text ≡ true
text_is slots text found is = plain_text text (plain_lines slots (lines_of text) 1 found is)
