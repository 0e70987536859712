-- What the contract of `collapse` says to its caller: the types of all rows where it does not refuse, and one answer only.
use Rattle.std.specs.Prelude.{Result, Ok, Err}
use mathlib.Core.Path.{◌≡◌, refl, sym, ap, ◌∙◌}
use mathlib.Core.Bool.{Bool, true, false}
use mathlib.Core.List.{List}
use lib.Seq.{take-length}
use Rattle.rules.specs.Answers.{when◌refuse◌else◌}
use Rattle.rules.specs.Job.{Bytes, Row, width, job_rows}
use Rattle.rules.specs.Types.{sampled, has_too_many}
use Rattle.rules.proofs.Answers.{ok-same, err-same, ok-not-err}
use Rattle.types.specs.State.{kinds_of, nodes_in}
use Rattle.types.specs.Collapse.{entered, sample_of, too_many_in, Collapsed}
use Rattle.types.specs.declared.sample.Sample.{Sample}
use Rattle.types.specs.declared.sample.TooMany.{TooMany}

-- Where TYPES is not given all rows are entered.
pub entered_all : (rs : List Row) → has_too_many rs ≡ false → entered rs ≡ rs
unfolding entered
entered_all rs e = rw e (take-length rs)

-- The sample that is handed back: of all rows, or of those before the row that is the 129th type.
abbrev pub handed : Result Sample TooMany → Sample
handed (Ok sample) = sample
handed (Err many) = many.before

-- What a caller is told: types, which are not too many, are those of all rows; else the row is told that is the 129th type.
module _ {job before after : Bytes} {r : Result Sample TooMany} (c : Collapsed job before after r) where
  pub collapsed-few : {sample : Sample} → r ≡ Ok sample → (has_too_many (job_rows job) ≡ false) × (sample ≡ sample_of (sampled (job_rows job)))
  collapsed-few {sample} told = go (has_too_many (job_rows job)) (sym c.answered ∙ told)
    where
      go : (t : Bool) → (when t refuse Err (too_many_in (job_rows job)) else Ok (sample_of (sampled (job_rows job)))) ≡ Ok sample →
          (t ≡ false) × (sample ≡ sample_of (sampled (job_rows job)))
      go true e = absurd (ok-not-err (sym e))
      go false e = (refl, sym (ok-same e))

  pub collapsed-many : {e : TooMany} → r ≡ Err e → (has_too_many (job_rows job) ≡ true) × (e ≡ too_many_in (job_rows job))
  collapsed-many {e} told = go (has_too_many (job_rows job)) (sym c.answered ∙ told)
    where
      go : (t : Bool) → (when t refuse Err (too_many_in (job_rows job)) else Ok (sample_of (sampled (job_rows job)))) ≡ Err e →
          (t ≡ true) × (e ≡ too_many_in (job_rows job))
      go true f = (refl, sym (err-same f))
      go false f = absurd (ok-not-err f)

  -- In either case the sample handed back is that of the rows entered, and they are read back by it.
  pub collapsed-handed : handed r ≡ sample_of (sampled (entered (job_rows job)))
  collapsed-handed = ap handed c.answered ∙ go (has_too_many (job_rows job)) refl
    where
      go : (t : Bool) → has_too_many (job_rows job) ≡ t →
          handed (when t refuse Err (too_many_in (job_rows job)) else Ok (sample_of (sampled (job_rows job)))) ≡
          sample_of (sampled (entered (job_rows job)))
      go true e = refl
      go false e = ap (λ rs. sample_of (sampled rs)) (sym (entered_all (job_rows job) e))

  pub collapsed-back : nodes_in (width job) (handed r).types after (handed r).kinds ≡ sampled (entered (job_rows job))
  collapsed-back = rw collapsed-handed c.read_back

  pub collapsed-kinds : (handed r).kinds ≡ kinds_of (sampled (entered (job_rows job)))
  collapsed-kinds = ap (λ (s : Sample). s.kinds) collapsed-handed

-- Two answers that meet the contract are equal, and so is what they leave in the state area.
pub collapsed-once : (job before a b : Bytes) (r s : Result Sample TooMany) → Collapsed job before a r → Collapsed job before b s → (a ≡ b) × (r ≡ s)
collapsed-once job before a b r s p q = (p.states_left ∙ sym q.states_left, p.answered ∙ sym q.answered)
