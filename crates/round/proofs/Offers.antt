-- Candidates as memory tells them are the rules' offers: the same triplets, the same median vectors as they are stored, the same costs.
use mathlib.Core.Path.{◌≡◌, refl, sym, ap, ◌∙◌}
use mathlib.Core.Logic.{◌↔◌, ◌≢◌}
use mathlib.Core.Bool.{true, false, ◌&&◌, and-eq-true_iff, false≢true}
use mathlib.Core.List.{List}
use Prim.Native.Nat.{ℕ, ◌≤◌, ◌<◌}
use native.Mathlib.Omega.{arith}
use lib.Dec.{ltb}
use lib.ListN.{length}
use borrow.Author.Tests.{ltb-true, lt-ltb, ne_eqb}
use Rattle.graph.proofs.Below.{In, is_false, some_false}
use Rattle.rules.specs.Job.{Bytes, Row}
use Rattle.rules.specs.Types.{row_at, rows_of, is_same_row, among}
use Rattle.rules.specs.Links.{linked}
use Rattle.rules.specs.Median.{two_of, triplet, medians, connection}
use Rattle.rules.specs.Purge.{Run, links_of}
use Rattle.rules.specs.Round.{Offer, made, offers}
use Rattle.rules.proofs.Rows.{same_row}
use Rattle.rules.proofs.Median.{length-median}
use Rattle.rules.proofs.Between.{each-median, one_of_length}
use Rattle.rules.proofs.Rounds.{Medial, in_offers, offer_width}
use Rattle.types.specs.State.{stored, stored_at}
use Rattle.types.proofs.State.{stored_same}
use Rattle.links.specs.Marks.{marked, TellsLinks}
use Rattle.links.proofs.Told.{marked-is}
use Rattle.purge.specs.declared.state.Held.{Held}
use Rattle.purge.proofs.Once.{current-few}
use Rattle.medians.proofs.Stored.{stored-medians, stored-connection}
use Rattle.triplets.specs.declared.Triplet.{Triplet}
use Rattle.medians.specs.Swept.{Gives}
use Rattle.sweep.specs.Candidate.{IsTriplet, Candidate}
use Rattle.round.specs.Rounded.{Carries}
use Rattle.round.proofs.Faithful.{current-count, stored_row, stored-current, current-wide}

-- Rows of one width are equal where they are stored as the same bytes.
pub stored_equal : (x y : Row) → length x ≡ length y → stored x ≡ stored y → x ≡ y
stored_equal x y l e = (same_row x y).0 (sym (stored_same x y l) ∙ (same_row (stored x) (stored y)).1 e)

-- The row of a current type.
abbrev row_of : Run → ℕ → Row
row_of run i = row_at (rows_of run.current) i

module _ {weights : List ℕ} {m : ℕ} {ws : List ℕ} {run : Run} {states : Bytes} {area : List ℕ} {held : Held}
    (carries : Carries weights m ws run states area held) (few : held.state.made ≤ 128) where
  abbrev n : ℕ
  n = held.state.types

  -- A row is among those made where it is stored as one of them.
  unmade-is : (x : Row) → length x ≡ m → (among (made run) x ≡ false) ↔ ((i : ℕ) → i < held.state.made → stored_at states i ≢ stored x)
  unmade-is x l =
      let rs = made run in
      let s = some_false (length rs) (λ k. is_same_row (row_at rs k) x) in (
        λ f i h e.
            let g : i < length rs = omega (arith, carries.holds.made_are) in
            let same = stored_equal (row_at rs i) x (carries.holds.wide i g ∙ sym l) (sym (stored_row carries few i g) ∙ e) in
            false≢true (sym (s.0 f i g) ∙ (same_row (row_at rs i) x).1 same),
        λ none. s.1 (λ i h. is_false _ (λ t.
            none i (omega (arith, carries.holds.made_are)) (stored_row carries few i h ∙ ap stored ((same_row (row_at rs i) x).0 t)))),
      )

  -- What a triplet of current types gives, as stored, is what its rows give.
  module _ (t : Triplet) (hu : t.u < n) (hv : t.v < n) (hw : t.w < n) where
    wide : (i : ℕ) → i < n → length (row_of run i) ≡ m
    wide i h = current-wide carries few i (rw (current-count carries few) h)

    median-wide : (k : ℕ) → k < 3 → length (row_at (medians (row_of run t.u) (row_of run t.v) (row_of run t.w)) k) ≡ m
    median-wide = each-median (λ r. length r ≡ m) _ _ _ (λ x o. length-median x _ _ _ ∙ one_of_length m (wide t.u hu) (wide t.v hv) (wide t.w hw) o)

    as_stored : {A : Type 0} (f : Bytes → Bytes → Bytes → A) →
        f (stored_at states t.u) (stored_at states t.v) (stored_at states t.w) ≡ f (stored (row_of run t.u)) (stored (row_of run t.v)) (stored (row_of run t.w))
    as_stored f =
        let u = stored-current carries few t.u hu in
        let v = stored-current carries few t.v hv in
        let w = stored-current carries few t.w hw in
        λ i. f (u i) (v i) (w i)

    stored-number : (k : ℕ) → k < 3 → row_at (medians (stored_at states t.u) (stored_at states t.v) (stored_at states t.w)) k
        ≡ stored (row_at (medians (row_of run t.u) (row_of run t.v) (row_of run t.w)) k)
    stored-number k h = as_stored (λ u v w. row_at (medians u v w) k)
        ∙ stored-medians m carries.holds.narrow _ _ _ (wide t.u hu) (wide t.v hv) (wide t.w hw) k h

    stored-cost : (x : Row) → length x ≡ m → connection weights (stored x) (stored_at states t.u) (stored_at states t.v) (stored_at states t.w)
        ≡ connection ws x (row_of run t.u) (row_of run t.v) (row_of run t.w)
    stored-cost x l = as_stored (connection weights (stored x)) ∙ rw carries.weights_are
        (stored-connection m carries.holds.narrow _ _ _ (wide t.u hu) (wide t.v hv) (wide t.w hw) ws x carries.as_wide l)

    pub gives_medial : (o : Offer) → length o.row ≡ m →
        Gives weights states held.state.made t (stored o.row) o.cost ↔ Medial ws (made run) (row_of run t.u) (row_of run t.v) (row_of run t.w) o
    gives_medial o l = (
      λ g. record {
        number = g.median.number;
        below = g.median.below_three;
        row_is = stored_equal o.row _ (l ∙ sym (median-wide g.median.number g.median.below_three))
            (g.median.row_is ∙ stored-number g.median.number g.median.below_three);
        cost_is = g.cost_is ∙ stored-cost o.row l;
        unknown = (unmade-is o.row l).1 g.unmade;
      },
      λ r. record {
        median = record { number = r.number; below_three = r.below; row_is = ap stored r.row_is ∙ sym (stored-number r.number r.below) };
        cost_is = r.cost_is ∙ sym (stored-cost o.row l);
        unmade = (unmade-is o.row l).0 r.unknown;
      },
    )

  -- Memory tells the links at epsilon.
  module _ {e : ℕ} (tells : TellsLinks ws e (rows_of run.current) area) where
    pub marked-linked : (i j : ℕ) → i ≢ j → i < n → j < n → marked area i j ≡ linked (links_of ws e run) i j
    marked-linked i j ne hi hj =
        let few' : length (rows_of run.current) ≤ 128 = omega (arith, current-count carries few, current-few carries.holds) in
        marked-is ws e (rows_of run.current) few' tells i j (rw (current-count carries few) hi) (rw (current-count carries few) hj) ∙ rw (ne_eqb i j ne)

    -- Triplets are the same.
    two_linked : (u v w : ℕ) → u < v → v < w → w < n → two_of (marked area u v) (marked area u w) (marked area v w)
        ≡ two_of (linked (links_of ws e run) u v) (linked (links_of ws e run) u w) (linked (links_of ws e run) v w)
    two_linked u v w h l k =
        let uv = marked-linked u v (omega arith) (omega arith) (omega arith) in
        let uw = marked-linked u w (omega arith) (omega arith) k in
        let vw = marked-linked v w (omega arith) (omega arith) k in
        λ i. two_of (uv i) (uw i) (vw i)

    pub triplet-is : (t : Triplet) → t.w < n → (triplet (links_of ws e run) t.u t.v t.w ≡ true) ↔ IsTriplet area n t
    triplet-is t k =
        let two = two_linked t.u t.v t.w in
        let b = and-eq-true_iff (ltb t.u t.v && ltb t.v t.w) _ in
        let r = and-eq-true_iff (ltb t.u t.v) (ltb t.v t.w) in (
          λ p.
              let h = ltb-true _ _ (r.0 (b.0 p).0).0 in
              let l = ltb-true _ _ (r.0 (b.0 p).0).1 in
              record { rising = (h, l); current = k; two_linked = two h l k ∙ (b.0 p).1 },
          λ i. b.1 (r.1 (lt-ltb _ _ i.rising.0, lt-ltb _ _ i.rising.1), sym (two i.rising.0 i.rising.1 k) ∙ i.two_linked),
        )

    -- A candidate is an offer at its cost, and an offer a candidate.
    pub candidate_offer : (x : Bytes) (cost : ℕ) → Candidate weights states area n held.state.made x cost →
        (o : Offer) × In o (offers ws e run) × (stored o.row ≡ x) × (o.cost ≡ cost)
    candidate_offer x cost c =
        let t = c.triplet in
        let k = c.gives.median.number in
        let l = c.gives.median.below_three in
        let i = c.is_triplet in
        let hw = i.current in
        let hv : t.v < n = omega (arith, i.rising) in
        let hu : t.u < n = omega (arith, i.rising) in
        let o : Offer = record { row = row_at (medians (row_of run t.u) (row_of run t.v) (row_of run t.w)) k; cost = cost } in
        let is : stored o.row ≡ x = sym (c.gives.median.row_is ∙ stored-number t hu hv hw k l) in
        let count = current-count carries few in (
          o,
          (in_offers ws e run o).1 (record {
            u = t.u;
            v = t.v;
            w = t.w;
            u-current = rw count hu;
            v-current = rw count hv;
            w-current = rw count hw;
            is_triplet = (triplet-is t hw).1 i;
            median = (gives_medial t hu hv hw o (median-wide t hu hv hw k l)).0 (rw is c.gives);
          }),
          is,
          refl,
        )

    pub offer_candidate : (o : Offer) → In o (offers ws e run) → Candidate weights states area n held.state.made (stored o.row) o.cost
    offer_candidate o h =
        let r = (in_offers ws e run o).0 h in
        let count = current-count carries few in
        let t : Triplet = record { u = r.u; v = r.v; w = r.w } in
        let hw = rw count at r.w-current in
        record {
          triplet = t;
          is_triplet = (triplet-is t hw).0 r.is_triplet;
          gives = (gives_medial t (rw count at r.u-current) (rw count at r.v-current) hw o
              (offer_width ws e run m (current-wide carries few) o h)).1 r.median;
        }
