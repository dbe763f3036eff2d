-- What is found of leaves, one after another.
use Rattle.std.proofs.Common.{inl, inr, ◌⊎◌, ◌≡◌, ℕ, zero, suc, ◌<◌, true, false, List, [], ◌∷◌, ◌++◌, length, map, get_or, take, ◌+◌, None, refl, sym, ap, ◌∙◌, subst, arith}
use Rattle.std.proofs.lemmas.List.{map-append, take_more}
use Rattle.std.proofs.lemmas.List.Elements.{Contains-append_cases, Contains-append_left, Contains-append_right}
use Rattle.std.specs.List.{AllByRecursion, Contains}
use Rattle.bw_shape.specs.Limits.{LimitsView}
use Rattle.bw_look.specs.View.{TreeView}
use Rattle.bw_tidy.specs.Findings.{AreFindings, AreLeft, FitsAt, GoOn, IsFinding, IsLeafAt}
use Rattle.bw_tidy.specs.declared.findings.Finding.{Finding}
use Rattle.bw_tidy.specs.declared.leaf_findings.Findings.{Findings}

pub stay : (tree : TreeView) (stamp : ℕ) (findings : Findings) → GoOn tree stamp findings findings
stay tree stamp findings = record { limits = refl; found = λ are. are }

-- nothing, of leaves that are kept to the same limits
pub begin : (tree : TreeView) (stamp : ℕ) (old new : Findings) → new.limits ≡ old.limits → AreFindings tree stamp new → GoOn tree stamp old new
begin tree stamp old new limits are = record { limits = limits; found = λ was. are }

pub go_on : (tree : TreeView) (stamp : ℕ) (first old new : Findings) → GoOn tree stamp first old → GoOn tree stamp old new → GoOn tree stamp first new
go_on tree stamp first old new before more = record { limits = more.limits ∙ before.limits; found = λ are. more.found (before.found are) }

-- a page that wasn't looked at
pub unlooked : (tree : TreeView) (limits : LimitsView) (stamp : ℕ) (finding : Finding) → finding.leaf ≡ None → finding.is_due ≡ true → IsFinding tree limits stamp finding
unlooked tree limits stamp finding none due = record {
  leaf = subst (IsLeafAt tree stamp finding.page) (sym none) tt;
  fits = λ off. absurd (different (sym due ∙ off));
  lowest = λ off. absurd (different (sym due ∙ off));
}
  where
    different : true ≡ false → ⊥
    different e = cc

-- a leaf at which there is nothing to do fits as it stands
pub fitting : (tree : TreeView) (limits : LimitsView) (stamp : ℕ) (finding : Finding) → IsFinding tree limits stamp finding → finding.is_due ≡ false → finding.leaf ≡ None → FitsAt tree limits finding.page None
fitting tree limits stamp finding is off none = subst (FitsAt tree limits finding.page) none (is.fits off)

-- of one page more it is told that it fits, or it is left
pub next_left : (pages fitting left left' : List ℕ) (i page : ℕ) → i < length pages → page ≡ get_or pages i page → AreLeft (take i pages) fitting left → ((p : ℕ) → Contains left p → Contains left' p) → Contains left' page ⊎ Contains fitting page → AreLeft (take (i + 1) pages) fitting left'
next_left pages fitting left left' i page lt is before more now p has =
    elim (Contains-append_cases (take i pages) (get_or pages i page ∷ []) p (subst (λ (l : List ℕ). Contains l p) (take_more pages i page lt) has)) [
      | inl first ↦ elim (before p first) [
        | inl there ↦ inl (more p there)
        | inr fits ↦ inr fits
      ]
      | inr last ↦ by last
    ]
  where
    by : Contains (get_or pages i page ∷ []) p → Contains left' p ⊎ Contains fitting p
    by (zero, here, at) = subst (λ q. Contains left' q ⊎ Contains fitting q) (is ∙ at) now
    by (suc n, there, at) = absurd (omega (arith, there))

pub no_pages : (fitting left : List ℕ) → AreLeft [] fitting left
no_pages fitting left p has = absurd (omega (arith, has.1))

-- a list with one element more
pub with_last : (left left' : List ℕ) (page : ℕ) → left' ≡ left ++ page ∷ [] → (p : ℕ) → Contains left p → Contains left' p
with_last left left' page is p has = subst (λ (l : List ℕ). Contains l p) (sym is) (Contains-append_left left (page ∷ []) p has)

pub last_there : (left left' : List ℕ) (page : ℕ) → left' ≡ left ++ page ∷ [] → Contains left' page
last_there left left' page is = subst (λ (l : List ℕ). Contains l page) (sym is) (Contains-append_right left (page ∷ []) page (0, omega arith, refl))

-- one finding more, of the next page
pub next_page : (findings findings' : List Finding) (finding : Finding) (pages : List ℕ) (i page : ℕ) → i < length pages → page ≡ get_or pages i page → finding.page ≡ page → findings' ≡ findings ++ finding ∷ [] → map (λ (f : Finding). f.page) findings ≡ take i pages → map (λ (f : Finding). f.page) findings' ≡ take (i + 1) pages
next_page findings findings' finding pages i page lt is of more before =
    ap (map (λ (f : Finding). f.page)) more ∙ map-append (λ (f : Finding). f.page) findings (finding ∷ [])
    ∙ ap (λ (l : List ℕ). l ++ finding.page ∷ []) before ∙ ap (λ q. take i pages ++ q ∷ []) (of ∙ is) ∙ sym (take_more pages i page lt)

-- what holds of all findings, and of one more
pub all_with_last : {X : Type 0} (P : X → Type 0) (xs xs' : List X) (x : X) → xs' ≡ xs ++ x ∷ [] → AllByRecursion P xs → P x → AllByRecursion P xs'
all_with_last {X = X} P xs xs' x is all last = subst (AllByRecursion P) (sym is) (by xs all)
  where
    by : (ys : List X) → AllByRecursion P ys → AllByRecursion P (ys ++ x ∷ [])
    by [] all = (last, tt)
    by (y ∷ ys) all = (all.0, by ys all.1)

-- what was consolidated, of all findings
pub leaves_of : (tree : TreeView) (limits : LimitsView) (stamp : ℕ) (findings : List Finding) → AllByRecursion (IsFinding tree limits stamp) findings → AllByRecursion (λ finding. IsLeafAt tree stamp finding.page finding.leaf) findings
leaves_of tree limits stamp [] all = tt
leaves_of tree limits stamp (finding ∷ findings) all = (all.0.leaf, leaves_of tree limits stamp findings all.1)
