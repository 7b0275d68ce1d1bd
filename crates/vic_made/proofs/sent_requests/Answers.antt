use Rattle.vic_made.proofs.Made.{sent_requests}
use Rattle.vic_made.proofs.sent_requests.Goals as goal

pub returns : goal.returns
returns c = sent_requests
