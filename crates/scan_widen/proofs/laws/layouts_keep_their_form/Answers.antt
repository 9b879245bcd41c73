use Rattle.scan_widen.proofs.FormsAll.{forms_under}
use Rattle.scan_widen.proofs.laws.layouts_keep_their_form.Goals as goal

pub returns : goal.returns
returns c = forms_under
