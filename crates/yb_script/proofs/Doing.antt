-- Where a run of commands is, and how it ends.
use Rattle.std.proofs.Common.{◌≡◌, ℕ, ◌+◌, suc, ◌<◌, Bool, true, false, cond, List, [], ◌∷◌, ◌++◌, length, take, refl, sym, ap, subst, ◌∙◌, arith, append_assoc, append-nil, length-append}
use Rattle.std.specs.Prelude.{Option, Some, None, Ok, Err}
use Rattle.std.proofs.Math.Seq.{take-append_seam, take-append-add}
use Rattle.std.specs.Io.KnownBytes.{Appends}
use Rattle.script_io.specs.Streams.{AppendsPart}
use Rattle.row_values.specs.Elements.{AllOf}
use Rattle.model.specs.Entries.{Entry}
use Rattle.model.specs.Scripts.{Numbered}
use Rattle.model_runs.specs.Courses.{ScriptAsked}
use Rattle.model_runs.specs.Running.{Run, begun, run_of, run_from, ran, made_by, with_text, text_of}
use Rattle.script_lang.specs.declared.script.ScriptLine.{ScriptLine}
use Rattle.script_lang.specs.declared.script.ScriptLine.TheVariants.{Single}
use Rattle.script_asked.specs.Numbered.{numbered_of}
use Rattle.script_runs.specs.Runs.{RunState, run_at, text_between, Ran, RanFull, RanInPart}
use Rattle.yb_script.specs.declared.performing.Halt.{Halt}
use Rattle.yb_script.specs.declared.performing.Halt.TheVariants.{WriteFault, Full, NoMemory}
use Rattle.yb_script.specs.Endings.{Program, run_first, status_of, IsHalted, IsMemoryFault, IsWhole, IsFull, IsCut, IsBroken, OfTold}

-- Runs

from-append : (slots : ℕ) (cs ds : List Numbered) (r : Run) → run_from slots (cs ++ ds) r ≡ run_from slots ds (run_from slots cs r)
from-append slots [] ds r = refl
from-append slots (c ∷ cs) ds r = from-append slots cs ds (ran slots c r)

of-append : (slots : ℕ) (cs ds : List Numbered) → run_of slots (cs ++ ds) ≡ run_from slots ds (run_of slots cs)
unfolding run_of
of-append slots cs ds = from-append slots cs ds begun

-- the run of no command
pub of-nil : (slots : ℕ) → run_of slots [] ≡ begun
unfolding run_of
of-nil slots = refl

stays : (stopped : Bool) (r after : Run) → stopped ≡ true → cond stopped r after ≡ r
stays true r after is = refl
stays false r after is = absurd (let q : false ≡ true = is in grind arith)

-- a run that is stopped stays so
stopped_stays : (slots : ℕ) (cs : List Numbered) (r : Run) → r.stopped ≡ true → run_from slots cs r ≡ r
stopped_stays slots [] r is = refl
stopped_stays slots (c ∷ cs) r is =
    ap (run_from slots cs) (stays r.stopped r (with_text (text_of c.line c.command r (made_by slots c.command r).history) (made_by slots c.command r)) is) ∙ stopped_stays slots cs r is

text_keeps : (stopped : Bool) (text : List ℕ) (r : Run) → (cond stopped r (record r { text = r.text ++ text; done = r.done + 1 })).history ≡ r.history
text_keeps true text r = refl
text_keeps false text r = refl

-- the entries of a command are those of its events
ran_history : (c : Numbered) (s : RunState) (told : List ℕ) (done : ℕ) → (ran s.slots c (run_at s told done)).history ≡ (made_by s.slots c.command (run_at s told done)).history
ran_history c s told done =
    let after = made_by s.slots c.command (run_at s told done) in
    text_keeps after.stopped (text_of c.line c.command (run_at s told done) after.history) after

-- Bytes, and then more bytes

appends-append : (a b c : Option (List ℕ)) (first next : List ℕ) → Appends a b first → Appends b c next → Appends a c (first ++ next)
appends-append None b c first next one two = tt
appends-append (Some xs) None c first next one two = absurd one
appends-append (Some xs) (Some ys) None first next one two = absurd two
appends-append (Some xs) (Some ys) (Some zs) first next one two = rw (two, one, append_assoc) refl

pub appends-nothing : (a : Option (List ℕ)) → Appends a a []
appends-nothing None = tt
appends-nothing (Some xs) = sym (append-nil xs)

-- Lines

pub length_numbered : (lines : List ScriptLine) → length (numbered_of lines) ≡ length lines
length_numbered [] = refl
length_numbered (Single c ∷ lines) = ap suc (length_numbered lines)

-- the commands of lines of which this is the next
pub next_left : (lines rest : List ScriptLine) (line : ScriptLine) (c : Numbered) → lines ≡ line ∷ rest → Single c ≡ line → numbered_of lines ≡ c ∷ numbered_of rest
next_left lines rest line c is same = ap numbered_of (is ∙ ap (λ l. l ∷ rest) (sym same))

-- Where the run is

-- the first k of the commands are done and told, and these are left
pub record IsAt (slots : ℕ) (commands left : List Numbered) (k : ℕ) (s : RunState) (old now : Option (List ℕ)) : Type 0 where
  pub slots_is : s.slots ≡ slots
  pub did : List Numbered
  pub split : commands ≡ did ++ left
  pub count : k ≡ length did
  pub run : run_of slots did ≡ run_at s (run_of slots did).text k
  pub text : Appends old now (run_of slots did).text
  pub asked : AllOf (λ (c : Numbered). ScriptAsked slots c.command) left

pub at_begin : (slots : ℕ) (commands : List Numbered) (s : RunState) (old : Option (List ℕ)) → s.slots ≡ slots → run_at s [] 0 ≡ begun
    → AllOf (λ (c : Numbered). ScriptAsked slots c.command) commands
    → IsAt slots commands commands 0 s old old
at_begin slots commands s old slots_is is asked =
    let begins = of-nil slots in
    record {
      slots_is = slots_is;
      did = [];
      split = refl;
      count = refl;
      run = subst (λ (r : Run). r ≡ run_at s r.text 0) (sym begins) (sym is);
      text = subst (λ (r : Run). Appends old old r.text) (sym begins) (appends-nothing old);
      asked = asked;
    }

-- the run of one command more
next_run : (slots : ℕ) (commands left : List Numbered) (c : Numbered) (k : ℕ) (s : RunState) (old now : Option (List ℕ)) → (at : IsAt slots commands (c ∷ left) k s old now)
    → run_of slots (at.did ++ c ∷ []) ≡ ran s.slots c (run_at s (run_of slots at.did).text k)
next_run slots commands left c k s old now at =
    of-append slots at.did (c ∷ []) ∙ ap (ran slots c) at.run ∙ ap (λ n. ran n c (run_at s (run_of slots at.did).text k)) (sym at.slots_is)

first_next : (did left : List Numbered) (c : Numbered) (commands : List Numbered) (k : ℕ) → commands ≡ did ++ c ∷ left → k ≡ length did → take (k + 1) commands ≡ did ++ c ∷ []
first_next did left c commands k split count = rw (split, count) (take-append-add did (c ∷ left) 1)

first_done : (did left commands : List Numbered) (k : ℕ) → commands ≡ did ++ left → k ≡ length did → take k commands ≡ did
first_done did left commands k split count = rw (split, count) (take-append_seam did left)

one_less : (did left : List Numbered) (c : Numbered) (commands : List Numbered) (k : ℕ) → commands ≡ did ++ c ∷ left → k ≡ length did → k < length commands
one_less did left c commands k split count = rw split (omega (arith, count, length-append did (c ∷ left)))

pub at_next : (slots : ℕ) (commands left : List Numbered) (c : Numbered) (k : ℕ) (s new : RunState) (old now later : Option (List ℕ)) → IsAt slots commands (c ∷ left) k s old now
    → new.slots ≡ s.slots → Ran c s new → Appends now later (text_between c s new) → IsAt slots commands left (k + 1) new old later
at_next slots commands left c k s new old now later at slots_is ran_ text =
    let told = (run_of slots at.did).text in
    let run : run_of slots (at.did ++ c ∷ []) ≡ run_at new (told ++ text_between c s new) (k + 1) = next_run slots commands left c k s old now at ∙ ran_ told k in
    let text_is : (run_of slots (at.did ++ c ∷ [])).text ≡ told ++ text_between c s new = ap (λ (r : Run). r.text) run in
    record {
      slots_is = slots_is ∙ at.slots_is;
      did = at.did ++ c ∷ [];
      split = at.split ∙ sym (append_assoc at.did (c ∷ []) left);
      count = rw (length-append at.did (c ∷ [])) (omega (arith, at.count));
      run = run ∙ ap (λ t. run_at new t (k + 1)) (sym text_is);
      text = subst (λ t. Appends old later t) (sym text_is) (appends-append old now later told (text_between c s new) at.text text);
      asked = at.asked.1;
    }

pub at_size : (slots : ℕ) (commands left : List Numbered) (c : Numbered) (k : ℕ) (s : RunState) (old now : Option (List ℕ)) → IsAt slots commands (c ∷ left) k s old now → k < length commands
at_size slots commands left c k s old now at = one_less at.did left c commands k at.split at.count

-- Ends

pub whole_end : (slots : ℕ) (commands : List Numbered) (k n : ℕ) (s : RunState) (old now : Option (List ℕ)) → IsAt slots commands [] k s old now → n ≡ length commands
    → IsWhole slots commands s.history n old now
whole_end slots commands k n s old now at count =
    let all : commands ≡ at.did = at.split ∙ append-nil at.did in
    let is : n ≡ k = count ∙ ap length all ∙ sym at.count in
    let run : run_of slots commands ≡ run_at s (run_of slots at.did).text k = ap (run_of slots) all ∙ at.run in
    record {
      goes_on = ap (λ (r : Run). r.stopped) run;
      all = count;
      counted = ap (λ (r : Run). r.done) run ∙ sym is;
      entries = sym (ap (λ (r : Run). r.history) run);
      text = subst (λ cs. Appends old now (run_of slots cs).text) (sym all) at.text;
    }

pub full_end : (slots : ℕ) (commands left : List Numbered) (c : Numbered) (k : ℕ) (s new : RunState) (old now : Option (List ℕ)) → IsAt slots commands (c ∷ left) k s old now → RanFull c s new
    → IsFull slots commands new.history k old now
full_end slots commands left c k s new old now at full =
    let told = (run_of slots at.did).text in
    let stopped = record (run_at new told k) { stopped = true } in
    let run : run_of slots (at.did ++ c ∷ []) ≡ stopped = next_run slots commands left c k s old now at ∙ full told k in
    let whole : run_of slots commands ≡ stopped =
    ap (run_of slots) (at.split ∙ sym (append_assoc at.did (c ∷ []) left)) ∙ of-append slots (at.did ++ c ∷ []) left
    ∙ ap (run_from slots left) run ∙ stopped_stays slots left stopped refl in
    record {
      stops = ap (λ (r : Run). r.stopped) whole;
      next = at_size slots commands left c k s old now at;
      counted = ap (λ (r : Run). r.done) whole;
      entries = sym (ap (λ (r : Run). r.history) whole);
      text = subst (λ t. Appends old now t) (sym (ap (λ (r : Run). r.text) whole)) at.text;
    }

pub cut_end : (slots : ℕ) (commands left : List Numbered) (c : Numbered) (k : ℕ) (s new : RunState) (old now later : Option (List ℕ)) → IsAt slots commands (c ∷ left) k s old now → Ran c s new
    → AppendsPart now later (text_between c s new) → IsCut slots commands new.history k old later
cut_end slots commands left c k s new old now later at ran_ part =
    let told = (run_of slots at.did).text in
    let before = first_done at.did (c ∷ left) commands k at.split at.count in
    let after = first_next at.did left c commands k at.split at.count in
    let run : run_first slots commands (k + 1) ≡ run_at new (told ++ text_between c s new) (k + 1) =
    ap (run_of slots) after ∙ next_run slots commands left c k s old now at ∙ ran_ told k in
    let told_is : told ≡ (run_first slots commands k).text = ap (λ cs. (run_of slots cs).text) (sym before) in
    record {
      next = at_size slots commands left c k s old now at;
      goes_on = ap (λ (r : Run). r.stopped) run;
      entries = sym (ap (λ (r : Run). r.history) run);
      line = text_between c s new;
      behind = ap (λ (r : Run). r.text) run ∙ ap (λ t. t ++ text_between c s new) told_is;
      bytes = part.0;
      part = part.1;
      text = subst (λ t. Appends old later (t ++ take part.0 (text_between c s new))) told_is (appends-append old now later told (take part.0 (text_between c s new)) at.text part.2);
    }

pub broken_end : (slots : ℕ) (commands left : List Numbered) (c : Numbered) (k : ℕ) (s new : RunState) (old now : Option (List ℕ)) → IsAt slots commands (c ∷ left) k s old now → RanInPart c s new
    → IsBroken slots commands new.history k old now
broken_end slots commands left c k s new old now at part =
    let told = (run_of slots at.did).text in
    let before = first_done at.did (c ∷ left) commands k at.split at.count in
    let after = first_next at.did left c commands k at.split at.count in
    let run : run_first slots commands k ≡ run_at s told k = ap (run_of slots) before ∙ at.run in
    let whole : (run_first slots commands (k + 1)).history ≡ (made_by s.slots c.command (run_at s told k)).history =
    ap (λ (r : Run). r.history) (ap (run_of slots) after ∙ next_run slots commands left c k s old now at) ∙ ran_history c s told k in
    let p = part told k in
    let less = at_size slots commands left c k s old now at in
    record {
      within = omega (arith, less);
      goes_on = ap (λ (r : Run). r.stopped) run;
      entries = record {
        more = p.more;
        behind = p.behind ∙ ap (λ es. p.more ++ es) (sym (ap (λ (r : Run). r.history) run));
        rest = p.rest;
        within = whole ∙ p.within;
      };
      text = subst (λ cs. Appends old now (run_of slots cs).text) (sym before) at.text;
    }

-- there was no memory before the first command
pub broken_begin : (slots : ℕ) (commands : List Numbered) (history : List Entry) (done : ℕ) (old : Option (List ℕ)) → history ≡ [] → done ≡ 0 → IsBroken slots commands history done old old
broken_begin slots commands history done old none at_first =
    let begins = of-nil slots in
    rw (none, at_first) (record {
      within = omega arith;
      goes_on = ap (λ (r : Run). r.stopped) begins;
      entries = record {
        more = [];
        behind = sym (ap (λ (r : Run). r.history) begins);
        rest = (run_first slots commands 1).history;
        within = sym (append-nil (run_first slots commands 1).history);
      };
      text = subst (λ (r : Run). Appends old old r.text) (sym begins) (appends-nothing old);
    })

pub nothing_done : (slots : ℕ) (program : Program) (history : List Entry) (done : ℕ) (old : Option (List ℕ)) → history ≡ [] → done ≡ 0 → IsMemoryFault slots program history done old old
nothing_done slots (Ok lines) history done old none at_first = broken_begin slots (numbered_of lines) history done old none at_first
nothing_done slots (Err refused) history done old none at_first = (none, at_first, appends-nothing old)

pub nothing_told : (slots : ℕ) (program : List ℕ → Program) (left : Option (List ℕ)) (history : List Entry) (done : ℕ) (old : Option (List ℕ)) → history ≡ [] → done ≡ 0
    → OfTold left (λ bytes. IsMemoryFault slots (program bytes) history done old old)
nothing_told slots program None history done old none at_first = tt
nothing_told slots program (Some bytes) history done old none at_first = nothing_done slots (program bytes) history done old none at_first

-- Ends by what halted the command, whose status is told

pub cut_stop : (halt : Halt) (slots : ℕ) (commands left : List Numbered) (c : Numbered) (k : ℕ) (s new : RunState) (old now later : Option (List ℕ)) → status_of halt ≡ 5 → IsAt slots commands (c ∷ left) k s old now
    → IsHalted c s new now later halt → IsCut slots commands new.history k old later
cut_stop WriteFault slots commands left c k s new old now later five at h = cut_end slots commands left c k s new old now later at h.0 h.1
cut_stop Full slots commands left c k s new old now later five at h = absurd (omega (arith, five))
cut_stop NoMemory slots commands left c k s new old now later five at h = absurd (omega (arith, five))

pub full_stop : (halt : Halt) (slots : ℕ) (commands left : List Numbered) (c : Numbered) (k : ℕ) (s new : RunState) (old now later : Option (List ℕ)) → status_of halt ≡ 8 → IsAt slots commands (c ∷ left) k s old now
    → IsHalted c s new now later halt → IsFull slots commands new.history k old later
full_stop WriteFault slots commands left c k s new old now later eight at h = absurd (omega (arith, eight))
full_stop Full slots commands left c k s new old now later eight at h = subst (λ w. IsFull slots commands new.history k old w) (sym h.1) (full_end slots commands left c k s new old now at h.0)
full_stop NoMemory slots commands left c k s new old now later eight at h = absurd (omega (arith, eight))

pub broken_stop : (halt : Halt) (slots : ℕ) (commands left : List Numbered) (c : Numbered) (k : ℕ) (s new : RunState) (old now later : Option (List ℕ)) → status_of halt ≡ 6 → IsAt slots commands (c ∷ left) k s old now
    → IsHalted c s new now later halt → IsBroken slots commands new.history k old later
broken_stop WriteFault slots commands left c k s new old now later six at h = absurd (omega (arith, six))
broken_stop Full slots commands left c k s new old now later six at h = absurd (omega (arith, six))
broken_stop NoMemory slots commands left c k s new old now later six at h = subst (λ w. IsBroken slots commands new.history k old w) (sym h.1) (broken_end slots commands left c k s new old now at h.0)
