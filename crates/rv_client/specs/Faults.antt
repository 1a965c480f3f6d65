-- The fault of a link by the fault of a body.
use Rattle.rv_json.specs.declared.fault.TextFault.{TextFault}
use Rattle.rv_json.specs.declared.fault.TextFault as text
use Rattle.rv_client.specs.declared.fault.LinkFault.{LinkFault}
use Rattle.rv_client.specs.declared.fault.LinkFault.TheVariants.{BadBody, NoMemory}

abbrev pub text_fault : TextFault → LinkFault
text_fault text.TheVariants.NotJson = BadBody
text_fault text.TheVariants.NotMessage = BadBody
text_fault text.TheVariants.NoMemory = NoMemory
