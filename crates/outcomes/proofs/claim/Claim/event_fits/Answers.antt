use Rattle.std.proofs.Common.{Some, sym, ◌∙◌}
use Rattle.outcomes.proofs.Events.{event_decided}
use Rattle.outcomes.proofs.Sameness.{same_decided}
use Rattle.outcomes.proofs.claim.Claim.event_fits.Goals as goal

pub returns-in-Some : goal.returns-in-Some
returns-in-Some c =
    let same = same_decided c.event.result (Some c.in-Some.event) c.eq.result c.eq.ensures in
    event_decided _ _ c.args.e c.eq.result (λ t. sym c.event.ensures ∙ same.0 t ∙ sym c.in-Some.is ∙ c.expected.ensures, λ h. same.1 (c.event.ensures ∙ h ∙ sym c.expected.ensures ∙ c.in-Some.is))
