-- Groups of words, and the slashes between them.
use Rattle.std.proofs.Common.{◌≡◌, ℕ, zero, suc, ◌<◌, ◌≤◌, Bool, true, false, cond, List, [], ◌∷◌, ◌++◌, length, get_or, take, drop, refl, sym, ap, ◌∙◌, arith}
use Rattle.std.specs.List.{AllByRecursion}
use Rattle.script_places.specs.Words.{Word}
use Rattle.script_places.specs.Groups.{slash, is_slash, before_all, groups}
use Rattle.script_places.specs.Spelling.{joined}
use Rattle.script_places.proofs.Cuts.{same_words}

-- where the first group ends
abbrev pub NoneBelow : List Word → ℕ → Type 0
NoneBelow words i = (k : ℕ) → k < i → is_slash (get_or words k []) ≡ false

next : (w : Word) (ws : List Word) (i : ℕ) → NoneBelow (w ∷ ws) (suc i) → NoneBelow ws i
next w ws i none k lt = none (suc k) (omega arith)

pub ends : (words : List Word) (i : ℕ) → i < length words → NoneBelow words i → is_slash (get_or words i []) ≡ true
    → groups words ≡ take i words ∷ groups (drop (suc i) words)
ends [] i lt none here = absurd (omega arith)
ends (w ∷ ws) zero lt none here = rw here refl
ends (w ∷ ws) (suc i) lt none here =
    rw (none 0 (omega arith), ends ws i (omega arith) (next w ws i none) here) refl

pub last : (words : List Word) → NoneBelow words (length words) → groups words ≡ words ∷ []
last [] none = refl
last (w ∷ ws) none = rw (none 0 (omega arith), last ws (next w ws (length ws) none)) refl

-- the item at a place, whatever stands for those past the end
pub item_at : {A : Type 0} (xs : List A) (i : ℕ) (x d : A) → i < length xs → x ≡ get_or xs i x → get_or xs i d ≡ x
item_at [] i x d lt is = absurd (omega arith)
item_at (y ∷ ys) zero x d lt is = sym is
item_at (y ∷ ys) (suc i) x d lt is = item_at ys i x d (omega arith) is

-- groups without slashes are found again in the words that they are joined to
abbrev pub NoSlash : List Word → Type 0
NoSlash ws = AllByRecursion (λ w. is_slash w ≡ false) ws

pub slash_is : (w : Word) → is_slash w ≡ true → w ≡ slash
unfolding is_slash
slash_is w e = same_words w slash e

at_slash : (group rest : List Word) → NoSlash group → groups (group ++ (slash ∷ rest)) ≡ group ∷ groups rest
unfolding is_slash
at_slash [] rest none = refl
at_slash (w ∷ ws) rest none = rw (none.0, at_slash ws rest none.1) refl

at_end : (group : List Word) → NoSlash group → groups group ≡ group ∷ []
at_end [] none = refl
at_end (w ∷ ws) none = rw (none.0, at_end ws none.1) refl

pub groups_joined : (items : List (List Word)) → AllByRecursion NoSlash items → 1 ≤ length items → groups (joined items) ≡ items
groups_joined [] none some = absurd (omega arith)
groups_joined (group ∷ []) none some = at_end group none.0
groups_joined (group ∷ other ∷ items) none some =
    at_slash group (joined (other ∷ items)) none.0 ∙ ap (λ (gs : List (List Word)). group ∷ gs) (groups_joined (other ∷ items) none.1 (omega arith))

-- and groups are joined to the words that were cut
more : (w : Word) (gs : List (List Word)) → 1 ≤ length (before_all w gs)
more w [] = omega arith
more w (group ∷ gs) = omega arith

some_by : (w : Word) (ws : List Word) (test : Bool) → 1 ≤ length (cond test ([] ∷ groups ws) (before_all w (groups ws)))
some_by w ws true = omega arith
some_by w ws false = more w (groups ws)

pub some_group : (ws : List Word) → 1 ≤ length (groups ws)
some_group [] = omega arith
some_group (w ∷ ws) = some_by w ws (is_slash w)

join_slash : (gs : List (List Word)) → 1 ≤ length gs → joined ([] ∷ gs) ≡ slash ∷ joined gs
join_slash [] some = absurd (omega arith)
join_slash (group ∷ gs) some = refl

join_word : (w : Word) (gs : List (List Word)) → 1 ≤ length gs → joined (before_all w gs) ≡ w ∷ joined gs
join_word w [] some = absurd (omega arith)
join_word w (group ∷ []) some = refl
join_word w (group ∷ other ∷ gs) some = refl

joined_by : (w : Word) (ws : List Word) (test : Bool) → is_slash w ≡ test → joined (groups ws) ≡ ws → joined (cond test ([] ∷ groups ws) (before_all w (groups ws))) ≡ w ∷ ws
joined_by w ws true is rest = join_slash (groups ws) (some_group ws) ∙ ap (λ (vs : List Word). slash ∷ vs) rest ∙ ap (λ (v : Word). v ∷ ws) (sym (slash_is w is))
joined_by w ws false is rest = join_word w (groups ws) (some_group ws) ∙ ap (λ (vs : List Word). w ∷ vs) rest

pub joined_groups : (ws : List Word) → joined (groups ws) ≡ ws
joined_groups [] = refl
joined_groups (w ∷ ws) = joined_by w ws (is_slash w) refl (joined_groups ws)
