-- A line is read as the grammar says.
use Rattle.std.proofs.Common.{◌≡◌, ℕ, ◌^◌, ◌<◌, ◌≤◌, inl, inr, Bool, true, false, not, cond, List, [], ◌∷◌, length, Option, Some, None, Result, Ok, Err, refl, sym, ap, subst, ◌∙◌, arith}
use Rattle.std.specs.Prelude.{nat_lt}
use Rattle.std.proofs.lemmas.Bool.Decides.{nat_tests}
use Rattle.script_words.specs.declared.cause.Cause.{Cause}
use Rattle.script_words.specs.declared.cause.Cause.TheVariants.{LineTooLong, BadByte, OpenQuote, UnknownCommand}
use Rattle.script_words.specs.Words.{is_plain, is_comment, is_open, words_of}
use Rattle.script_words.specs.Reading.{◌>>=◌}
use Rattle.script_words.specs.Layout.{IsLaidOut}
use Rattle.script_words.proofs.Layouts.{laid_out, laid_is_read}
use Rattle.script_places.specs.Words.{Word}
use Rattle.script_places.specs.Places.{look_up}
use Rattle.script_places.specs.Grammar.{all_right, words_differ, SpelledIn, RefusedIn}
use Rattle.script_places.proofs.TableWords.{found, finds, refused_in, refuses_in}
use Rattle.model.specs.Scripts.{ScriptCommand}
use Rattle.script_lang.specs.Table.{table, from_work, from_restores, from_schedules, from_tablets, from_rows, from_catalog, command_of}
use Rattle.script_lang.specs.Script.{of_words, line_of}
use Rattle.script_lang.specs.Grammar.{IsPlainLine, IsLine, LineRefused}

-- the table is right, and its groups are looked through one after the other
right : all_right table ≡ true
right = refl

differ : words_differ table ≡ true
differ = refl

looked : (slots : ℕ) (w : Word) (ws : List Word) → command_of slots w ws ≡ look_up slots table w ws (Err UnknownCommand)
unfolding command_of from_catalog from_rows from_tablets from_schedules from_restores from_work
looked slots w ws = refl

pub command_is : (slots : ℕ) (command : ScriptCommand) (w : List ℕ) (ws : List (List ℕ)) → slots < 2 ^ 64 → command_of slots w ws ≡ Ok command → SpelledIn slots table command w ws
command_is slots command w ws few e = found slots table command w ws few right (sym (looked slots w ws) ∙ e)

pub command_again : (slots : ℕ) (command : ScriptCommand) (w : List ℕ) (ws : List (List ℕ)) → slots < 2 ^ 64 → SpelledIn slots table command w ws → command_of slots w ws ≡ Ok command
command_again slots command w ws few s = looked slots w ws ∙ finds slots table command w ws few right differ s

pub command_not : (slots : ℕ) (cause : Cause) (w : List ℕ) (ws : List (List ℕ)) → slots < 2 ^ 64 → command_of slots w ws ≡ Err cause → RefusedIn slots table cause w ws
command_not slots cause w ws few e = refused_in slots table cause w ws few right (sym (looked slots w ws) ∙ e)

pub command_refused : (slots : ℕ) (cause : Cause) (w : List ℕ) (ws : List (List ℕ)) → slots < 2 ^ 64 → RefusedIn slots table cause w ws → command_of slots w ws ≡ Err cause
command_refused slots cause w ws few r = looked slots w ws ∙ refuses_in slots table cause w ws few right differ r

-- results
abbrev okay : Option ScriptCommand → Result (Option ScriptCommand) Cause
okay found = Ok found

abbrev failed : {A : Type 0} → Cause → Result A Cause
failed cause = Err cause

same_ok : (x y : Option ScriptCommand) → okay x ≡ okay y → x ≡ y
same_ok x y e = cc

same_cause : {A : Type 0} (c d : Cause) → failed {A = A} c ≡ failed d → c ≡ d
same_cause c d e = cc

took : (r : Result ScriptCommand Cause) (found : Option ScriptCommand) → (r >>= λ command. okay (Some command)) ≡ Ok found → (command : ScriptCommand) × (r ≡ Ok command) × (Some command ≡ found)
took (Ok command) found e = (command, refl, same_ok (Some command) found e)
took (Err d) found e = absurd cc

not_took : (r : Result ScriptCommand Cause) (cause : Cause) → (r >>= λ command. okay (Some command)) ≡ Err cause → r ≡ Err cause
not_took (Ok command) cause e = absurd cc
not_took (Err d) cause e = ap failed (same_cause {A = Option ScriptCommand} d cause e)

not_long : (n : ℕ) → nat_lt 4096 n ≡ false → n ≤ 4096
not_long n e = grind (arith, nat_tests)

long : (n : ℕ) → nat_lt 4096 n ≡ true → 4096 < n
long n e = grind (arith, nat_tests)

is_long : (n : ℕ) → 4096 < n → nat_lt 4096 n ≡ true
is_long n e = grind (arith, nat_tests)

is_short : (n : ℕ) → n ≤ 4096 → nat_lt 4096 n ≡ false
is_short n e = grind (arith, nat_tests)

-- what the tests of a line make of its words
abbrev tested : Bool → Bool → Bool → Bool → List Word → Result (List Word) Cause
tested too_long plain comment shut words =
    cond too_long (Err LineTooLong) (cond (not plain) (Err BadByte) (cond comment (Ok []) (cond shut (Err OpenQuote) (Ok words))))

words_are : (slots : ℕ) (line : List ℕ) (words : List Word) (found : Option ScriptCommand) → slots < 2 ^ 64 → IsPlainLine line → is_comment line ≡ false → IsLaidOut words line
    → of_words slots words ≡ Ok found → IsLine slots line found
words_are slots line [] found few plain comment laid e =
    subst (λ (f : Option ScriptCommand). IsLine slots line f) (same_ok None found e) (plain, inr laid)
words_are slots line (w ∷ ws) found few plain comment laid e =
    let t = took (command_of slots w ws) found e in
    subst (λ (f : Option ScriptCommand). IsLine slots line f) t.2 (plain, comment, (w, ws, laid, command_is slots t.0 w ws few t.1))

line_by : (slots : ℕ) (line : List ℕ) (found : Option ScriptCommand) (too_long plain comment shut : Bool) → slots < 2 ^ 64
    → nat_lt 4096 (length line) ≡ too_long → is_plain line ≡ plain → is_comment line ≡ comment → is_open false line ≡ shut
    → (tested too_long plain comment shut (words_of line) >>= λ words. of_words slots words) ≡ Ok found → IsLine slots line found
line_by slots line found true plain comment shut few l p c s e = absurd cc
line_by slots line found false false comment shut few l p c s e = absurd cc
line_by slots line found false true true shut few l p c s e =
    subst (λ (f : Option ScriptCommand). IsLine slots line f) (same_ok None found e) ((not_long (length line) l, p), inl c)
line_by slots line found false true false true few l p c s e = absurd cc
line_by slots line found false true false false few l p c s e = words_are slots line (words_of line) found few (not_long (length line) l, p) c (laid_out line s) e

pub line_is : (slots : ℕ) (line : List ℕ) (found : Option ScriptCommand) → slots < 2 ^ 64 → line_of slots line ≡ Ok found → IsLine slots line found
unfolding line_of
line_is slots line found few e =
    line_by slots line found (nat_lt 4096 (length line)) (is_plain line) (is_comment line) (is_open false line) few refl refl refl refl e

-- a line in which words are laid out
laid_line : (slots : ℕ) (line : List ℕ) (words : List Word) → IsPlainLine line → is_comment line ≡ false → IsLaidOut words line → line_of slots line ≡ of_words slots words
unfolding line_of
laid_line slots line words plain comment laid =
    let read = laid_is_read words line laid in
    rw (is_short (length line) plain.0, plain.1, comment, read.0, read.1) refl

comment_line : (slots : ℕ) (line : List ℕ) → IsPlainLine line → is_comment line ≡ true → line_of slots line ≡ Ok None
unfolding line_of
comment_line slots line plain comment = rw (is_short (length line) plain.0, plain.1, comment) refl

blank_by : (slots : ℕ) (line : List ℕ) (comment : Bool) → is_comment line ≡ comment → IsPlainLine line → IsLaidOut [] line → line_of slots line ≡ Ok None
blank_by slots line true is plain laid = comment_line slots line plain is
blank_by slots line false is plain laid = laid_line slots line [] plain is laid

pub line_again : (slots : ℕ) (line : List ℕ) (found : Option ScriptCommand) → slots < 2 ^ 64 → IsLine slots line found → line_of slots line ≡ Ok found
line_again slots line None few (plain, inl comment) = comment_line slots line plain comment
line_again slots line None few (plain, inr laid) = blank_by slots line (is_comment line) refl plain laid
line_again slots line (Some command) few is =
    let read = command_again slots command is.2.0 is.2.1 few is.2.3 in
    laid_line slots line (is.2.0 ∷ is.2.1) is.0 is.1 is.2.2 ∙ ap (λ (r : Result ScriptCommand Cause). r >>= λ c. okay (Some c)) read

words_not : (slots : ℕ) (line : List ℕ) (words : List Word) (cause : Cause) → slots < 2 ^ 64 → IsPlainLine line → is_comment line ≡ false → IsLaidOut words line
    → of_words slots words ≡ Err cause → LineRefused slots line cause
words_not slots line [] cause few plain comment laid e = absurd cc
words_not slots line (w ∷ ws) cause few plain comment laid e =
    inr (inr (inr (plain, comment, (w, ws, laid, command_not slots cause w ws few (not_took (command_of slots w ws) cause e)))))

not_by : (slots : ℕ) (line : List ℕ) (cause : Cause) (too_long plain comment shut : Bool) → slots < 2 ^ 64
    → nat_lt 4096 (length line) ≡ too_long → is_plain line ≡ plain → is_comment line ≡ comment → is_open false line ≡ shut
    → (tested too_long plain comment shut (words_of line) >>= λ words. of_words slots words) ≡ Err cause → LineRefused slots line cause
not_by slots line cause true plain comment shut few l p c s e = inl (long (length line) l, sym (same_cause {A = Option ScriptCommand} LineTooLong cause e))
not_by slots line cause false false comment shut few l p c s e = inr (inl (not_long (length line) l, p, sym (same_cause {A = Option ScriptCommand} BadByte cause e)))
not_by slots line cause false true true shut few l p c s e = absurd cc
not_by slots line cause false true false true few l p c s e =
    inr (inr (inl ((not_long (length line) l, p), c, s, sym (same_cause {A = Option ScriptCommand} OpenQuote cause e))))
not_by slots line cause false true false false few l p c s e = words_not slots line (words_of line) cause few (not_long (length line) l, p) c (laid_out line s) e

pub line_not : (slots : ℕ) (line : List ℕ) (cause : Cause) → slots < 2 ^ 64 → line_of slots line ≡ Err cause → LineRefused slots line cause
unfolding line_of
line_not slots line cause few e =
    not_by slots line cause (nat_lt 4096 (length line)) (is_plain line) (is_comment line) (is_open false line) few refl refl refl refl e

long_line : (slots : ℕ) (line : List ℕ) → 4096 < length line → line_of slots line ≡ Err LineTooLong
unfolding line_of
long_line slots line l = rw (is_long (length line) l) refl

bad_line : (slots : ℕ) (line : List ℕ) → length line ≤ 4096 → is_plain line ≡ false → line_of slots line ≡ Err BadByte
unfolding line_of
bad_line slots line l p = rw (is_short (length line) l, p) refl

open_line : (slots : ℕ) (line : List ℕ) → IsPlainLine line → is_comment line ≡ false → is_open false line ≡ true → line_of slots line ≡ Err OpenQuote
unfolding line_of
open_line slots line plain c s = rw (is_short (length line) plain.0, plain.1, c, s) refl

abbrev refused_for : Cause → Result (Option ScriptCommand) Cause
refused_for cause = Err cause

pub line_refused : (slots : ℕ) (line : List ℕ) (cause : Cause) → slots < 2 ^ 64 → LineRefused slots line cause → line_of slots line ≡ Err cause
line_refused slots line cause few (inl r) = long_line slots line r.0 ∙ ap refused_for (sym r.1)
line_refused slots line cause few (inr (inl r)) = bad_line slots line r.0 r.1 ∙ ap refused_for (sym r.2)
line_refused slots line cause few (inr (inr (inl r))) = open_line slots line r.0 r.1 r.2 ∙ ap refused_for (sym r.3)
line_refused slots line cause few (inr (inr (inr r))) =
    let refused = command_refused slots cause r.2.0 r.2.1 few r.2.3 in
    laid_line slots line (r.2.0 ∷ r.2.1) r.0 r.1 r.2.2 ∙ ap (λ (q : Result ScriptCommand Cause). q >>= λ c. okay (Some c)) refused

-- one meaning, or one cause
pub one_meaning : (slots : ℕ) (line : List ℕ) (found other : Option ScriptCommand) → slots < 2 ^ 64 → IsLine slots line found → IsLine slots line other → found ≡ other
one_meaning slots line found other few is too = same_ok found other (sym (line_again slots line found few is) ∙ line_again slots line other few too)

pub never_both : (slots : ℕ) (line : List ℕ) (found : Option ScriptCommand) (cause : Cause) → slots < 2 ^ 64 → IsLine slots line found → ¬ (LineRefused slots line cause)
never_both slots line found cause few is refused =
    absurd (let e : okay found ≡ Err cause = sym (line_again slots line found few is) ∙ line_refused slots line cause few refused in cc)

pub one_cause : (slots : ℕ) (line : List ℕ) (cause other : Cause) → slots < 2 ^ 64 → LineRefused slots line cause → LineRefused slots line other → cause ≡ other
one_cause slots line cause other few is too =
    same_cause {A = Option ScriptCommand} cause other (sym (line_refused slots line cause few is) ∙ line_refused slots line other few too)
