mod SafeRuns
