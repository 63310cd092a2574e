-- The lines of a history, entry by entry.
use Rattle.std.proofs.Common.{◌≡◌, ◌≤◌, ℕ, suc, ◌+◌, List, [], ◌∷◌, ◌++◌, length, take, flat_map, Some, None, refl, sym, ap, ◌∙◌, arith}
use Rattle.std.specs.Prelude.{slice_get}
use Rattle.std.proofs.lemmas.List.{append-nil, append_assoc, take_all}
use Rattle.std.proofs.lemmas.Grind.{flat_map-append}
use Rattle.newest_index.proofs.Walks.{take_none, take_some}
use Rattle.model.specs.Entries.{Entry}
use Rattle.model_runs.specs.Courses.{ShowEntries}
use Rattle.model_runs.specs.Running.{taken}
use Rattle.model_runs.specs.HistoryTexts.{entry_line}
use Rattle.script_runs.specs.Runs.{RunState, PartOf}

module _ (es : List Entry) (at : ℕ) (old text : List ℕ) (told : text ≡ old ++ flat_map entry_line (take at es)) where
  -- one more entry
  pub entry_told : (e : Entry) (more : List ℕ) → slice_get es at ≡ Some e → more ≡ text ++ entry_line e → more ≡ old ++ flat_map entry_line (take (at + 1) es)
  entry_told e more there added =
      let next : at + 1 ≡ suc at = omega arith in
      let before = flat_map entry_line (take at es) in
      let lines : flat_map entry_line (take (at + 1) es) ≡ before ++ entry_line e =
      ap (λ n. flat_map entry_line (take n es)) next
      ∙ ap (flat_map entry_line) (take_some es at e there)
      ∙ flat_map-append entry_line (take at es) (e ∷ [])
      ∙ ap (λ line. before ++ line) (append-nil (entry_line e)) in
      added ∙ ap (λ t. t ++ entry_line e) told ∙ append_assoc old before (entry_line e) ∙ ap (λ l. old ++ l) (sym lines)

  -- none stands there
  pub none_told : slice_get es at ≡ None → text ≡ old ++ flat_map entry_line (take (at + 1) es)
  none_told none =
      let next : at + 1 ≡ suc at = omega arith in
      told ∙ ap (λ l. old ++ flat_map entry_line l) (sym (ap (λ n. take n es) next ∙ take_none es at none))

  -- all are told
  pub all_told : length es ≤ at → text ≡ old ++ flat_map entry_line es
  all_told le = told ∙ ap (λ l. old ++ flat_map entry_line l) (take_all at es le)

-- telling them changes nothing
pub told_alone : (s : RunState) → PartOf (taken s.slots ShowEntries) s s
told_alone s told done = record { more = []; behind = refl; rest = []; within = refl }
