pub mod PumpScripts
