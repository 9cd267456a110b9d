-- What a filter hands out and what it swallows.
use Rattle.std.specs.Prelude.{◌≡◌, ℕ, ◌≤◌, ◌⊎◌, List, [], ◌∷◌, ◌++◌, length, Some, None, Decides, Option}
use Rattle.std.specs.List.{Contains}
use Rattle.link.specs.declared.Link as link
use Rattle.link.specs.Frames.{Frame}
use Rattle.link.specs.Laws.{Call, frames_taken, Run}
use Rattle.duplicate_filter.specs.declared.filter.DuplicateFilter.{DuplicateFilter}
use Rattle.duplicate_filter.specs.Repeats.{seen, last_eight}
use Rattle.duplicate_filter.specs.Means.{recent_of, filter_waiting, FilterPuts, FilterTakes}

module _ {L : Type 0} (K : link.Ghosts L) where
  -- The inner link handed out a frame that is none of the last eight; it is handed on and joins them.
  pub record Passed (l : DuplicateFilter L) (a : ℕ) (b : List ℕ) (l' : DuplicateFilter L) : Type 0 where
    pub inner : K.takes l.inner a (Some b) l'.inner
    pub fresh : Contains (recent_of l) (a, b) → ⊥
    pub joined : recent_of l' ≡ last_eight (recent_of l ++ (a, b) ∷ [])

  -- The inner link handed out nothing, or a frame that is one of the last eight; these stay.
  pub record Swallowed (l : DuplicateFilter L) (a : ℕ) (l' : DuplicateFilter L) : Type 0 where
    pub inner : K.takes l.inner a None l'.inner ⊎ ((b : List ℕ) × Contains (recent_of l) (a, b) × K.takes l.inner a (Some b) l'.inner)
    pub stay : recent_of l' ≡ recent_of l

  -- Two takes of one link answer the same, and leave what means the same.
  abbrev pub OneTake : (L → List Frame) → L → ℕ → Type 0
  OneTake mean j a = (j' k' : L) (i k : Option (List ℕ)) → K.takes j a i j' → K.takes j a k k' → (i ≡ k) × (mean j' ≡ mean k')

  pub record FilterLaws : Type 0 where
    pub repeats : (f : Frame) (rs : List Frame) → Decides (seen f rs) (Contains rs f)
    pub passed : (l l' : DuplicateFilter L) (a : ℕ) (b : List ℕ) → FilterTakes K l a (Some b) l' → Passed l a b l'
    pub swallowed : (l l' : DuplicateFilter L) (a : ℕ) → FilterTakes K l a None l' → Swallowed l a l'
    -- whatever the calls on a new filter, it keeps the last eight frames that it handed out
    pub last : (l l' : DuplicateFilter L) (cs : List Call) → recent_of l ≡ [] → Run (filter_waiting K) (FilterPuts K) (FilterTakes K) l cs l' → recent_of l' ≡ last_eight (frames_taken cs)
    pub bound : (l : DuplicateFilter L) → length (recent_of l) ≤ 8
    -- where the inner link's answer and what it means after are unique, so are the filter's
    pub one_take : (mean : L → List Frame) (l l' m' : DuplicateFilter L) (a : ℕ) (o p : Option (List ℕ)) → OneTake mean l.inner a → FilterTakes K l a o l' → FilterTakes K l a p m'
        → (o ≡ p) × (recent_of l' ≡ recent_of m') × (mean l'.inner ≡ mean m'.inner)
