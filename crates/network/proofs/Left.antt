-- What the call leaves: the links fit the table and the result, the result is the rules' once they are written, and no work memory is left.
use Rattle.std.specs.Prelude.{Ok, Err}
use mathlib.Core.Path.{◌≡◌, refl, sym, ap, ◌∙◌}
use mathlib.Core.List.{List}
use Prim.Native.Nat.{ℕ, zero, suc, ◌+◌, ◌*◌, ◌≤◌}
use native.Mathlib.Nat.{zero-add}
use native.Mathlib.Omega.{arith}
use lib.ListN.{length, get_or, replicate, length-replicate}
use Rattle.graph.specs.Below.{gather}
use Rattle.graph.proofs.Below.{gather_ext}
use Rattle.rules.specs.Job.{Bytes, width}
use Rattle.rules.specs.Lent.{Lent}
use Rattle.rules.specs.Call.{Verdict, refused, found, verdict, written, answer_to, answer, result_after}
use Rattle.rules.specs.Answers.{Answer}
use Rattle.rules.specs.declared.Link.{Link}
use Rattle.rules.specs.declared.Refusal.{Refusal}
use Rattle.rules.proofs.Answers.{ok-not-err}
use Rattle.memory.specs.Placed.{placed}
use Rattle.memory.proofs.Placed.{placed-none, placed-twice, get_or-placed, length-placed, placed-padded}
use Rattle.readback.proofs.Lent.{enough}
use Rattle.readback.proofs.Found.{found-is}
use Rattle.readback.proofs.Result.{writable, few-links, block-short}
use Rattle.result.specs.Order.{no_link}
use Rattle.purge.specs.Network.{links_in}
use Rattle.result.proofs.Parts.{block-is, block_size}
use Rattle.result.specs.Table.{Listable, link_bytes, table_bytes}
use Rattle.network.specs.declared.draw.Sketch.{Sketch}
use Rattle.network.specs.Drawn.{sketched, verdict_links, verdict_types, Outlined}
use Rattle.network.specs.Called.{lent_by, Unlinked, Linked, Called}

-- ── A verdict's links ──

-- They fit what is lent, and the distance area is long enough where there is one.
record Fits (lent : Lent) (m : ℕ) (v : Verdict) : Type 0 where
  few : verdict_types v ≤ 128
  table-room : length (verdict_links v) ≤ lent.links
  cells : 1 ≤ length (verdict_links v) → 16384 ≤ lent.distances
  result-room : length (sketched m v) + 6 * length (verdict_links v) ≤ lent.result

links_fit : (lent : Lent) (job : Bytes) (v : Verdict) → verdict lent job ≡ v → Fits lent (width job) v
links_fit lent job (refused a) e = record { few = omega arith; table-room = omega arith; cells = λ h. absurd (omega (arith, h)); result-room = omega arith }
links_fit lent job (found net) e =
    let long = enough lent (found-is lent job net e).areas in
    record {
      few = (writable lent job net e).few;
      table-room = omega (arith, few-links lent job net e, long.links-long);
      cells = λ h. long.distances-long;
      result-room = omega (arith, block_size (width job) net, block-short lent job net e, long.result-long);
    }

-- Behind what is sketched they complete what the rules write.
completed : (b : Bytes) (m : ℕ) (v : Verdict) → placed (placed b 0 (sketched m v)) (length (sketched m v)) (table_bytes (length (verdict_links v)) (verdict_links v)) ≡ placed b 0 (written m v)
unfolding table_bytes gather
completed b m (refused a) = sym (placed-none (placed b 0 (sketched m (refused a))) 0)
completed b m (found net) = placed-twice b (sketched m (found net)) 0 (omega arith) _ _ (omega arith) ∙ ap (placed b 0) (sym (block-is m net))

-- A table that begins with them has their bytes in front.
table-part : (links ls : List Link) → table_bytes (length ls) (placed links 0 ls) ≡ table_bytes (length ls) ls
unfolding table_bytes
table-part links ls = gather_ext (length ls) _ _ (λ k h. ap link_bytes (rw (zero-add k) at (get_or-placed links ls 0 (omega arith) k no_link h)))

-- ── After the call ──

-- What is written to the front of zeros is the result that the rules leave.
result-after : (lent : Lent) (job result' : Bytes) → result' ≡ placed (replicate lent.result 0) 0 (written (width job) (verdict lent job)) →
    result' ≡ result_after lent job
unfolding result_after
result-after lent job result' e = e ∙ placed-padded lent.result (written (width job) (verdict lent job))

-- Zeros at every place.
pub zero_at : (n i : ℕ) → ◌≡◌ {A = ℕ} (get_or (replicate n 0) i 0) 0
zero_at zero i = refl
zero_at (suc n) zero = refl
zero_at (suc n) (suc i) = zero_at n i

-- Where the answer is a refusal nothing is written, and so nothing is left to write.
nothing-left : (lent : Lent) (job : Bytes) {e : Refusal} → answer lent job ≡ Err e → sketched (width job) (verdict lent job) ≡ written (width job) (verdict lent job)
unfolding answer
nothing-left lent job told = go (verdict lent job) told
  where
    go : {e : Refusal} (v : Verdict) → answer_to (width job) v ≡ Err e → sketched (width job) v ≡ written (width job) v
    go (refused a) e = refl
    go (found net) e = absurd (ok-not-err e)

module _ (job result states : Bytes) (distances : List ℕ) (links : List Link) where
  abbrev lent : Lent
  lent = lent_by result states distances links

  abbrev v : Verdict
  v = verdict lent job

  fits : Fits lent (width job) v
  fits = links_fit lent job v refl

  module _ {result' states' : Bytes} {distances' : List ℕ} where
    -- A refusal.
    pub linked-refused : {e : Refusal} {r : Answer} → Unlinked job result states distances (length links) (Err e) result' states' distances' → r ≡ Err e →
        Linked job result states distances links r result' states' distances' links
    linked-refused a told = record {
      answered = told ∙ a.wrote.answered;
      result_left = result-after lent job result' (a.wrote.result_is ∙ ap (placed (replicate lent.result 0) 0) (nothing-left lent job (sym a.wrote.answered)));
      states_left = a.states_left;
      distances_size = a.distances_size;
      links_size = refl;
    }

    module _ {s : Sketch} (a : Unlinked job result states distances (length links) (Ok s) result' states' distances') where
      outlined : Outlined lent job s distances'
      outlined = a.wrote.outlined s refl

      -- The links that the distance area tells can be listed in the table.
      pub listable : Listable distances' s.types s.links links
      listable =
          let w = outlined in
          record {
            few = rw w.types_are fits.few;
            counted = w.count_is ∙ ap length (sym w.links_are);
            room = rw w.count_is fits.table-room;
            cells = λ h. rw a.distances_size (fits.cells (rw w.count_is at h));
          }

      module _ {links₁ : List Link} (listed : links₁ ≡ placed links 0 (links_in s.types distances')) where
        abbrev ls : List Link
        ls = verdict_links v

        listed-is : links₁ ≡ placed links 0 ls
        listed-is = listed ∙ ap (placed links 0) outlined.links_are

        table-size : length links₁ ≡ length links
        table-size = rw listed-is (length-placed links ls 0 (omega (arith, fits.table-room)))

        -- They can be written from there.
        pub putable : (s.links ≤ length links₁) × (s.at + 6 * s.links ≤ length result')
        putable =
            let w = outlined in
            let front = sketched (width job) v in
            let size : length result' ≡ length result =
            rw a.wrote.result_is (length-placed _ front 0 (rw (length-replicate {A = ℕ}) (omega (arith, fits.result-room))) ∙ length-replicate _ _) in
            (rw (table-size, w.count_is) fits.table-room, rw (w.at_is, w.count_is, size) fits.result-room)

        -- The network with its links.
        pub linked : {result'' : Bytes} → result'' ≡ placed result' s.at (table_bytes s.links links₁) →
            Linked job result states distances links (Ok s.used) result'' states' distances' links₁
        linked {result''} p =
            let w = outlined in
            let zeros : Bytes = replicate (length result) 0 in
            let front = sketched (width job) v in
            let part : table_bytes s.links links₁ ≡ table_bytes (length ls) ls = rw (w.count_is, listed-is) (table-part links ls) in
            let whole : result'' ≡ placed zeros 0 (written (width job) v) = p ∙ rw (part, a.wrote.result_is, w.at_is) (completed zeros (width job) v) in
            record {
              answered = a.wrote.answered;
              result_left = result-after lent job result'' whole;
              states_left = a.states_left;
              distances_size = a.distances_size;
              links_size = table-size;
            }

-- Everything lent, after the call.
pub called : {job result states result' states' : Bytes} {distances distances' distances'' : List ℕ} {links links' links'' : List Link} {r : Answer} →
    Linked job result states distances links r result' states' distances' links' → links'' ≡ replicate (length links') no_link →
    distances'' ≡ replicate (length distances') 0 → Called job result states distances links r result' states' distances'' links''
called a c d = record {
  served = record {
    answered = a.answered;
    result_left = a.result_left;
    states_left = a.states_left;
    distances_left = d ∙ ap (λ n. replicate n 0) a.distances_size;
    links_left = c ∙ ap (λ n. replicate n no_link) a.links_size;
  };
}
