-- The rows that a round adds: those that the search through memory comes to are the rules' fresh rows as they are stored, and where
-- the search finds no room for them there is none.
use mathlib.Core.Path.{◌≡◌, refl, sym, ap, subst, ◌∙◌}
use mathlib.Core.Logic.Iff
use mathlib.Core.Logic.{◌↔◌, ◌≢◌}
use mathlib.Core.List.{List, [], map}
use Prim.Native.Nat.{ℕ, ◌≤◌, ◌<◌}
use native.Mathlib.Decide.{ℕ_discrete}
use native.Mathlib.Omega.{arith}
use lib.ListN.{length, length-map}
use Rattle.graph.proofs.Below.{In, in_map, empty}
use Rattle.rules.specs.Job.{Bytes, Row}
use Rattle.rules.specs.Types.{rows_of}
use Rattle.rules.specs.Purge.{Run}
use Rattle.rules.specs.Round.{offers}
use Rattle.rules.specs.Run.{fresh}
use Rattle.rules.specs.Call.{padded}
use Rattle.rules.proofs.Rounds.{AscendingRows, added-ascends, ascending-same, added_offered, added_none, added-some, offer_width}
use Rattle.rules.proofs.Window.{ascending-few, in_window, stored-ascends}
use Rattle.types.specs.State.{stored, laid}
use Rattle.links.specs.Marks.{TellsLinks}
use Rattle.purge.specs.declared.state.Held.{Held}
use Rattle.sweep.specs.Candidate.{Candidate}
use Rattle.round.specs.Fresh.{InWindow, All, TooMany, Fitting}
use Rattle.round.specs.declared.candidates.Added.{Added}
use Rattle.round.specs.Rounded.{Carries, Crowded}
use Rattle.round.proofs.Faithful.{current-wide, faithful}
use Rattle.round.proofs.Offers.{candidate_offer, offer_candidate}

not-empty : {A : Type 0} (x : A) (xs : List A) → In x xs → xs ≢ []
not-empty x xs h none = rw none at h

module _ {weights : List ℕ} {m : ℕ} {ws : List ℕ} {run : Run} {states : Bytes} {area : List ℕ} {held : Held} {e : ℕ}
    (carries : Carries weights m ws run states area held) (few : held.state.made ≤ 128) (tells : TellsLinks ws e (rows_of run.current) area) where
  -- Fresh rows are as wide as the others, and ascend as they are stored.
  pub fresh-wide : (x : Row) → In x (fresh ws e run) → length x ≡ m
  fresh-wide x h =
      let (o, i, f) = added_offered e (offers ws e run) x h in
      rw (← f) (offer_width ws e run m (current-wide carries few) o i)

  fresh-ascends : AscendingRows (map stored (fresh ws e run))
  fresh-ascends = stored-ascends 64 m (fresh ws e run) fresh-wide (added-ascends e (offers ws e run))

  -- Where there is no offer, there is no fresh row.
  fresh-none : offers ws e run ≡ [] → length (fresh ws e run) ≡ 0
  fresh-none none = rw none ((empty _).1 (added_none e))

  -- The candidates in the window are they.
  window : (x : Bytes) → InWindow weights states area held.state.types held.state.made e x ↔ In x (map stored (fresh ws e run))
  window x = (
    λ w.
        let (o, i, f, c) = candidate_offer carries few tells x w.cost w.candidate in
        let ne = not-empty o (offers ws e run) i in
        (in_map x stored (fresh ws e run)).1 (
          o.row,
          (in_window e (offers ws e run) ne o.row).1 (
            o,
            i,
            refl,
            λ p j. rw c (w.cheap (stored p.row) p.cost (offer_candidate carries few tells p j)),
          ),
          sym f,
        ),
    λ h.
        let (y, i, f) = (in_map x stored (fresh ws e run)).0 h in
        let (q, k, g) = added_offered e (offers ws e run) y i in
        let ne = not-empty q (offers ws e run) k in
        let (o, j, d, c) = (in_window e (offers ws e run) ne y).0 i in
        record {
          cost = o.cost;
          candidate = subst (λ (z : Bytes). Candidate weights states area held.state.types held.state.made z o.cost) (ap stored d ∙ sym f)
              (offer_candidate carries few tells o j);
          cheap = λ z other s. let (p, l, b, a) = candidate_offer carries few tells z other s in rw (← a) (c p l);
        },
  )

  module _ {r : Added} (found : Fitting weights states area held.state.types held.state.made e r) where
    all : All weights states area held.state.types held.state.made e r
    all = found.all (faithful carries few)

    fresh-rows : all.xs ≡ map stored (fresh ws e run)
    fresh-rows = ascending-same all.xs _ all.ascends fresh-ascends (λ x. Iff.trans (all.exact x) (window x))

    -- All of them are found, and laid one behind the other.
    pub fresh-count : r.count ≡ length (fresh ws e run)
    fresh-count = all.count_is ∙ rw fresh-rows (length-map (fresh ws e run) stored)

    pub fresh-laid : r.rows ≡ padded 8192 (laid (map stored (fresh ws e run)))
    fresh-laid = all.rows_are ∙ rw fresh-rows

    -- None where there is no offer, and else some.
    pub no_offer : r.count ≡ 0 → offers ws e run ≡ []
    no_offer z = elim (ℕ_discrete (length (offers ws e run)) 0) [
      | yes h ↦ (empty (offers ws e run)).0 h
      | no f ↦ absurd (added-some e (offers ws e run) (λ none. f ((empty _).1 none)) ((empty (fresh ws e run)).0 (sym fresh-count ∙ z)))
    ]

    pub some_offer : 0 < r.count → offers ws e run ≢ []
    some_offer h none = omega (arith, fresh-count, fresh-none none)

  -- More were found than there is room for.
  pub crowded : TooMany weights states area held.state.types held.state.made e → Crowded ws e run
  crowded t =
      let more = ascending-few t.xs (map stored (fresh ws e run)) t.ascends fresh-ascends (λ x h. (window x).0 (t.each x h)) in
      let n = length-map (fresh ws e run) stored in
      let all = carries.holds.made_are in
      record { some = λ none. omega (arith, t.no_room, fresh-none none); no_room = omega (arith, t.no_room) }
