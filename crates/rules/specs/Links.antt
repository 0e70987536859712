-- RULES 7: feasible links.
use Rattle.std.specs.Prelude.{◌≡◌, ◌⊎◌, Bool, cond, ◌&&◌, ◌||◌, List, ℕ, ◌<◌, ltb, eqb, length, get_or}
use Rattle.graph.specs.Below.{gather, only, count, some, every}
use Rattle.graph.specs.Feasible.{Feasible}
use Rattle.graph.specs.Spans.{cell, spans, feasible}
use Rattle.rules.specs.Job.{Row}
use Rattle.rules.specs.Distance.{apart}
use Rattle.rules.specs.declared.Link.{Link}

-- RULES 7.2: no chain of short steps leads from type i to type j. This is what to believe; `Feasible` of `graph` says it of any nodes.
abbrev pub FeasibleLink : List ℕ → ℕ → List Row → ℕ → ℕ → Type 0
FeasibleLink ws e rs i j = Feasible (length rs) (apart ws rs) e i j

-- RULES 7.3, 7.4: the list of all links, found by a test that computes. proofs/Links.antt shows that they are those of 7.2.
unfoldable pub links_at : List ℕ → ℕ → List Row → List Link
links_at ws e rs =
    let n = length rs in
    let g = spans n (apart ws rs) in
    gather n (λ i. gather n (λ j. only (ltb i j && feasible (apart ws rs) g e i j) (record { low = i; high = j; length = apart ws rs i j })))

abbrev pub link_at : List Link → ℕ → Link
link_at ls k = get_or ls k (record { low = 0; high = 0; length = 0 })

-- RULES 7.4: a link lies between two types, named in either order; one link is listed before another.
abbrev pub Between : Link → ℕ → ℕ → Type 0
Between l u v = ((l.low ≡ u) × (l.high ≡ v)) ⊎ ((l.low ≡ v) × (l.high ≡ u))

abbrev pub Before : Link → Link → Type 0
Before l m = (l.low < m.low) ⊎ ((l.low ≡ m.low) × (l.high < m.high))

-- RULES 7.5: a link names a type; some link names both of two types; how many links name a type.
abbrev pub names : Link → ℕ → Bool
names l i = eqb l.low i || eqb l.high i

abbrev pub linked : List Link → ℕ → ℕ → Bool
linked ls i j = some (length ls) (λ k. names (link_at ls k) i && names (link_at ls k) j)

abbrev pub link_count : List Link → ℕ → ℕ
link_count ls i = count (length ls) (λ k. names (link_at ls k) i)

-- RULES 4.8: do the links join all of n types? A pair that has no link is 1 apart, any other 0; joined types have spans of 0 only.
abbrev pub unlinked : List Link → ℕ → ℕ → ℕ
unlinked ls i j = cond (eqb i j || linked ls i j) 0 1

unfoldable pub join_all : ℕ → List Link → Bool
join_all n ls = let g = spans n (unlinked ls) in every n (λ i. every n (λ j. eqb (cell g i j) 0))
