-- A run in which nothing failed.
use Rattle.std.proofs.Common.{inl, inr, ℕ}
use Rattle.std.proofs.lemmas.Bool.{cases_eq}
use Rattle.irs_cli.specs.Commands.{Words}
use Rattle.irs_cli.specs.Run.{IsComplete, IsFaultless, Ran, Source, Written}

-- status 5 and 6 come with a fault, 7 writes nothing, and any other status is due
pub complete : (ws : Words) (files : Source) (out : Written) (status : ℕ) → Ran ws files out status
    → IsFaultless files out → IsComplete ws files out status
complete ws files out status ran faultless =
    elim (cases_eq status 7) [
      | inl seven ↦ inl (seven, ran.memory seven)
      | inr not_seven ↦ elim (cases_eq status 5) [
        | inl five ↦ absurd (faultless.0 ((ran.failed five).1.rose))
        | inr not_five ↦ elim (cases_eq status 6) [
          | inl six ↦ absurd (faultless.1 ((ran.put six).0))
          | inr not_six ↦ inr (ran.due not_five not_six not_seven)
        ]
      ]
    ]
