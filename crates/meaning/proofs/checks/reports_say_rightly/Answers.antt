use Rattle.meaning.proofs.OfReports.{reports_say_rightly}
use Rattle.meaning.proofs.checks.reports_say_rightly.Goals as goal

pub returns : goal.returns
returns c = reports_say_rightly
