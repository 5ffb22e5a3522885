-- How walks that gather go together.
use Rattle.std.proofs.Common.{◌≡◌, ◌∙◌, ◌<◌, ◌≤◌, ◌+◌, ap, sym, refl, ℕ, List, [], ◌++◌, drop, length, get_or}
use Rattle.cl_types.specs.Declarations.{Known, enter}
use Rattle.cl_types.specs.Tables.{left}
use Rattle.cl_types.specs.Walks.{Keeps}
use Rattle.cl_types.specs.Findings.{Forms, Told, adds}
use Rattle.cl_types.specs.Fields.{Finds}
use Rattle.cl_types.specs.Found.{onward}
use Rattle.cl_types.specs.Adds.{Adds, behind_all}
use Rattle.cl_types.proofs.Judging.{at_index, drop_end}
use Rattle.cl_types.proofs.Walking.{leave_back}
use Rattle.cl_types.proofs.Gathering.{two_found, adds_append, adds_nil}

pub stays_put : (f : Forms) (k : Known) (a b : Told) → b ≡ adds a f → Adds f k k a b
stays_put f k a b h = record { known_is = refl; found_is = h }

-- something found first, where the same is known then
pub finds_then : (f g : Forms) (k k' : Known) (a b c : Told) → b ≡ adds a f → Adds g k k' b c → Adds (f ++ g) k k' a c
finds_then f g k k' a b c h y = record { known_is = y.known_is; found_is = two_found a f g b c h y.found_is }

-- one walk behind another, which finds what is known as it was
pub adds_then : (f : Forms) (g : Finds) (k k1 k2 : Known) (a b c : Told) → Adds f k k1 a b → Adds (g k1) k1 k2 b c → Adds (f ++ g k) k k2 a c
adds_then f g k k1 k2 a b c x y = record { known_is = y.known_is ∙ x.known_is; found_is = two_found a f (g k) b c x.found_is (y.found_is ∙ ap (λ m. adds b (g m)) x.known_is) }

-- a walk in a scope of its own
pub scope_adds : (found : Finds) (old entered inner final : Known) (outer : ℕ) (a b : Told) → entered ≡ enter old → outer ≡ length old.around → b ≡ adds a (found entered) → Keeps entered inner → final ≡ left outer inner →
    Adds (found (enter old)) old final a b
scope_adds found old entered inner final outer a b he ho h k hf = record {
  known_is = hf ∙ leave_back old inner outer ho (k.around ∙ ap (λ (x : Known). x.around) he) (k.functions ∙ ap (λ (x : Known). x.functions) he);
  found_is = h ∙ ap (λ x. adds a (found x)) he;
}

-- ---- parts in order

-- what is left leads to the same
pub record Onwards {A : Type 0} (found : A → Finds) (behind : A → Known → Known) (xs : List A) (i : ℕ) (known : Known) (before : Told) (now : Known) (after : Told) : Type 0 where
  pub known_is : behind_all behind (drop i xs) now ≡ behind_all behind xs known
  pub found_is : adds after (onward found behind (drop i xs) now) ≡ adds before (onward found behind xs known)

pub onward_begins : {A : Type 0} (found : A → Finds) (behind : A → Known → Known) (xs : List A) (known : Known) (before : Told) → Onwards found behind xs 0 known before known before
onward_begins found behind xs known before = record { known_is = refl; found_is = refl }

pub onward_starts : {A : Type 0} (found : A → Finds) (behind : A → Known → Known) (xs : List A) (known now : Known) (a : Told) → now ≡ known → a ≡ [] → Onwards found behind xs 0 known [] now a
onward_starts found behind xs known now a hk ha = record {
  known_is = ap (behind_all behind xs) hk;
  found_is = ap (λ z. adds z (onward found behind xs now)) ha ∙ ap (λ k. adds [] (onward found behind xs k)) hk;
}

pub onward_turn : {A : Type 0} (found : A → Finds) (behind : A → Known → Known) (xs : List A) (i : ℕ) (x : A) (known : Known) (before : Told) (now : Known) (after : Told) (next : Known) (later : Told) →
    Onwards found behind xs i known before now after → i < length xs → x ≡ get_or xs i x → Adds (found x now) (behind x now) next after later → Onwards found behind xs (i + 1) known before next later
onward_turn found behind xs i x known before now after next later c few is d =
    let at = at_index xs i x few is in
    record {
      known_is = ap (λ m. behind_all behind (drop (i + 1) xs) m) d.known_is ∙ (sym (ap (λ ys. behind_all behind ys now) at) ∙ c.known_is);
      found_is =
          ap (λ m. adds later (onward found behind (drop (i + 1) xs) m)) d.known_is
          ∙ (ap (λ z. adds z (onward found behind (drop (i + 1) xs) (behind x now))) d.found_is
          ∙ (adds_append after (found x now) (onward found behind (drop (i + 1) xs) (behind x now)) ∙ (sym (ap (λ ys. adds after (onward found behind ys now)) at) ∙ c.found_is)));
    }

pub onward_ends : {A : Type 0} (found : A → Finds) (behind : A → Known → Known) (xs : List A) (i : ℕ) (known : Known) (before : Told) (now : Known) (after : Told) →
    Onwards found behind xs i known before now after → length xs ≤ i → Adds (onward found behind xs known) (behind_all behind xs known) now before after
onward_ends found behind xs i known before now after c past = record {
  known_is = sym (ap (λ ys. behind_all behind ys now) (drop_end xs i past)) ∙ c.known_is;
  found_is = sym (ap (λ ys. adds after (onward found behind ys now)) (drop_end xs i past) ∙ adds_nil after) ∙ c.found_is;
}
